-- What a value says as the settings of a scope.
use Rattle.std.specs.Prelude.{ℕ, List, [], ◌∷◌, codes, Bool, if◌then◌else◌, Option, Some, None, option_and_then, is_some, Result, Ok, Err}
use Rattle.std.specs.Option.{option_map, ok_or}
use Rattle.std.specs.List.{list_any}
use Rattle.serde_json.specs.Data.{Data, Members, no_members, member}
use Rattle.serde_json.specs.Find.{get, as_null, as_bool, as_str, as_object}
use Rattle.syntect_metadata.specs.declared.error.MetadataError.{MetadataError}
use Rattle.syntect_metadata.specs.declared.error.MetadataError.TheVariants.{BadItems}
use Rattle.syntect_metadata.specs.declared.items.Comments.{Comments}
use Rattle.syntect_metadata.specs.declared.items.MetadataItems.{MetadataItems}
use Rattle.syntect_metadata.specs.declared.items.Pair.{Pair}
use Rattle.syntect_metadata.specs.declared.items.Patterns.{Patterns}

-- ---- keys ----

-- the keys of patterns
abbrev pub pattern_keys : List (List ℕ)
pattern_keys =
    codes "increaseIndentPattern" ∷ codes "decreaseIndentPattern"
    ∷ codes "bracketIndentNextLinePattern"
    ∷ codes "disableIndentNextLinePattern" ∷ codes "unIndentedLinePattern" ∷ []

-- the key of the variables
abbrev pub variables_key : List ℕ
variables_key = codes "shellVariables"

-- the key of a truth value
abbrev pub parens_key : List ℕ
parens_key = codes "indentParens"

-- one of the seven keys is there, whatever its value
abbrev pub has_known_key : Data → Bool
has_known_key d = list_any (λ key. is_some (get key d)) (variables_key ∷ parens_key ∷ pattern_keys)

-- ---- values ----

-- the next answer, from the value of the first one; its refusal stays
abbrev pub next : {X Y : Type 0} → Result X MetadataError → (X → Result Y MetadataError)
    → Result Y MetadataError
next (Ok x) f = f x
next (Err e) f = Err e

-- what a value that may be missing or null says: nothing then
abbrev pub optional : {X : Type 0} → (Data → Option X) → Option Data
    → Result (Option X) MetadataError
optional read None = Ok None
optional read (Some d) =
    if is_some (as_null d) then Ok None else ok_or (option_map Some (read d)) BadItems

-- the pattern of a key, by its text
abbrev pub pattern_at : List ℕ → Data → Result (Option (List ℕ)) MetadataError
pattern_at key d = optional as_str (get key d)

-- the members of an object whose values are texts
abbrev pub texts_in : Members → Option (List (List ℕ × List ℕ))
texts_in no_members = Some []
texts_in (member name d ms) =
    option_and_then (λ text. option_map (λ others. (name, text) ∷ others) (texts_in ms)) (as_str d)

-- the variables: none where the key is missing, else those of an object of texts
abbrev pub variables_at : Option Data → Result (List (List ℕ × List ℕ)) MetadataError
variables_at None = Ok []
variables_at (Some d) = ok_or (option_and_then texts_in (as_object d)) BadItems

-- ---- comments ----

-- the text of a variable
abbrev pub variable : List ℕ → Option Data → Option (List ℕ)
variable name vars = option_and_then as_str (option_and_then (get name) vars)

-- the mark of a comment that goes to the end of its line: one that has no mark of its end
abbrev pub line_mark : Option Data → List ℕ → List ℕ → Option (List ℕ)
line_mark vars start end = if is_some (variable end vars) then None else variable start vars

-- the marks of a comment that has both
abbrev pub block_marks : Option Data → List ℕ → List ℕ → Option (List ℕ × List ℕ)
block_marks vars start end =
    option_and_then (λ s. option_map (λ e. (s, e)) (variable end vars)) (variable start vars)

-- the first of two that is there
abbrev pub first_some : {X : Type 0} → Option X → Option X → Option X
first_some None other = other
first_some (Some x) other = Some x

-- the first of three kinds of comment that goes to the end of its line
abbrev pub line_comment : Option Data → Option (List ℕ)
line_comment vars = first_some (line_mark vars (codes "TM_COMMENT_START") (codes "TM_COMMENT_END"))
    (first_some (line_mark vars (codes "TM_COMMENT_START_2") (codes "TM_COMMENT_END_2"))
    (line_mark vars (codes "TM_COMMENT_START_3") (codes "TM_COMMENT_END_3")))

-- the first of them that has two marks
abbrev pub block_comment : Option Data → Option (List ℕ × List ℕ)
block_comment vars =
    first_some (block_marks vars (codes "TM_COMMENT_START") (codes "TM_COMMENT_END"))
    (first_some (block_marks vars (codes "TM_COMMENT_START_2") (codes "TM_COMMENT_END_2"))
    (block_marks vars (codes "TM_COMMENT_START_3") (codes "TM_COMMENT_END_3")))

-- the variables, and what they say of comments
abbrev pub comments_at : Option Data → Result Comments MetadataError
comments_at vars =
    next (variables_at vars)
    (λ variables. Ok (record {
      variables = variables;
      line = line_comment vars;
      block = block_comment vars;
    }))

-- ---- patterns ----

-- a pair of patterns, each of which may be missing
abbrev pub pair : Option (List ℕ) → Option (List ℕ) → Pair
pair first second = record { first = first; second = second }

-- the patterns of two keys
abbrev pub pair_at : List ℕ → List ℕ → Data → Result Pair MetadataError
pair_at first second d =
    next (pattern_at first d) (λ f. next (pattern_at second d) (λ s. Ok (pair f s)))

-- the patterns of an object, each at its key
abbrev pub patterns_of : Data → Result Patterns MetadataError
patterns_of d =
    next (pair_at (codes "increaseIndentPattern") (codes "decreaseIndentPattern") d) (λ indents.
    next (pair_at (codes "bracketIndentNextLinePattern") (codes "disableIndentNextLinePattern") d)
    (λ next_line.
    next (pattern_at (codes "unIndentedLinePattern") d) (λ unindented.
    Ok (record { indents = indents; next_line = next_line; unindented = unindented }))))

-- ---- items ----

-- the items of these patterns, this `indentParens`, and these variables and comments
abbrev pub items_with : Patterns → Option Bool → Comments → MetadataItems
items_with patterns parens comments = record {
  increase_indent_pattern = patterns.indents.first;
  decrease_indent_pattern = patterns.indents.second;
  bracket_indent_next_line_pattern = patterns.next_line.first;
  disable_indent_next_line_pattern = patterns.next_line.second;
  unindented_line_pattern = patterns.unindented;
  indent_parens = parens;
  shell_variables = comments.variables;
  line_comment = comments.line;
  block_comment = comments.block;
}

-- what an object says; a key's value of a wrong kind is refused, and other keys are not looked at
abbrev pub items_of : Data → Result MetadataItems MetadataError
items_of d =
    next (patterns_of d) (λ patterns.
    next (optional as_bool (get parens_key d)) (λ parens.
    next (comments_at (get variables_key d)) (λ comments.
    Ok (items_with patterns parens comments))))

-- ---- For proofs and private functions alone ----

-- the parts of items
abbrev pub patterns_in : MetadataItems → Patterns
patterns_in i = record {
  indents = pair i.increase_indent_pattern i.decrease_indent_pattern;
  next_line = pair i.bracket_indent_next_line_pattern i.disable_indent_next_line_pattern;
  unindented = i.unindented_line_pattern;
}

abbrev pub comments_in : MetadataItems → Comments
comments_in i =
    record { variables = i.shell_variables; line = i.line_comment; block = i.block_comment }
