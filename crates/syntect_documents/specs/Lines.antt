-- How a document shows lines: what begins a line, with its number, its name and its mark.
use Rattle.std.specs.Prelude.{ℕ, nat_le, Bool, ◌&&◌, List, [], ◌++◌, Option, Some, None, codes, decimal, if◌then◌else◌}
use Rattle.std.specs.Borrow.{Bor}
use Rattle.std.specs.List.{list_any}
use Rattle.syntect_documents.specs.syntect_writers.Entities.{escaped}
use Rattle.syntect_documents.specs.declared.lines.LineForm.{LineForm}

-- a range of lines has the number: it is none of those before its first one or after its last one
abbrev pub has_number : ℕ → ℕ × ℕ → Bool
has_number number range = nat_le range.0 number && nat_le number range.1

-- one of the ranges has it
abbrev pub is_marked : List (ℕ × ℕ) → ℕ → Bool
is_marked ranges number = list_any (has_number number) ranges

-- the class of a marked line
abbrev pub mark_text : Bool → List ℕ
mark_text marked = if marked then codes " marked" else []

-- the name of a line, where lines have names
abbrev pub name_text : Option (Bor (List ℕ)) → ℕ → List ℕ
name_text None number = []
name_text (Some anchor) number =
    codes " id=\"" ++ (escaped anchor.now ++ (decimal number ++ codes "\""))

-- the number of a line, where lines tell it
abbrev pub number_text : Bool → ℕ → List ℕ
number_text numbers number =
    if numbers then codes " data-line=\"" ++ (decimal number ++ codes "\"") else []

-- what begins the line of a number
abbrev pub line_tag : LineForm → ℕ → List ℕ
line_tag form number =
    codes "<span class=\"line" ++ (mark_text (is_marked form.marked.now number)
    ++ (codes "\"" ++ (name_text form.anchor number
    ++ (number_text form.numbers number ++ codes ">"))))
