-- What a pattern's text becomes before it is read as a pattern.
use Rattle.std.specs.Prelude.{ℕ, Bool, if◌then◌else◌, List}
use Rattle.syntect_grammar_rewrite.specs.Variables.{Variables, expanded}
use Rattle.syntect_grammar_rewrite.specs.Replacing.{with_replacements, brackets}
use Rattle.syntect_grammar_rewrite.specs.Newlines.{anchored, ended}

-- its variables are expanded, then brackets are named by categories, then the ends of lines are
-- written as lines have them
unfoldable pub rewritten : Variables → Bool → List ℕ → List ℕ
rewritten variables lines_include_newline t =
    let named = with_replacements brackets (expanded variables t) in
    if lines_include_newline then anchored named else ended named
