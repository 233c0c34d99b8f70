-- What the loader looks up in values.
use Rattle.std.specs.Prelude.{ℕ, ◌==◌, ◌-◌, nat_lt, Bool, true, false, ◌&&◌, ◌||◌, if◌then◌else◌, List, [], ◌∷◌, ◌++◌, length, take, drop, codes, Option, Some, None, is_some, unwrap_or, option_map, option_and_then, slice_get, ℤ}
use Rattle.std.specs.List.{slice_split, starts_with, ends_with}
use Rattle.syntect_yaml.specs.Node as node
use Rattle.syntect_yaml.specs.Node.{Node, scalar, list, Items, no_items, item, Entries, no_entries, entry, text_of, number_of, truth_of, as_scalar, as_list, as_map, get}
use Rattle.syntect_yaml.specs.declared.value.Scalar.{Scalar}
use Rattle.syntect_yaml.specs.declared.value.Scalar.TheVariants.{Text, Truth}
use Rattle.std.specs.Borrow.{Bor}
use Rattle.syntect_yaml.specs.View.{view}
use Rattle.syntect_yaml.specs.declared.value.Yaml.{Yaml}
use lib.Dec.{eqb}

-- the values of a list, and the entries of a map, in order
abbrev pub values : Items → List Node
values no_items = []
values (item v vs) = v ∷ values vs

-- the entries of a map, in order
abbrev pub pairs : Entries → List (Scalar × Node)
pairs no_entries = []
pairs (entry k v es) = (k, v) ∷ pairs es

-- a value as one of a kind, if it is of that kind
abbrev pub text_in : Node → Option (List ℕ)
text_in v = option_and_then text_of (as_scalar v)

-- the truth value that a value is, if it is one
abbrev pub truth_in : Node → Option Bool
truth_in v = option_and_then truth_of (as_scalar v)

-- the number that a value is, if it is one
abbrev pub number_in : Node → Option ℤ
number_in v = option_and_then number_of (as_scalar v)

-- the values of a list, if the value is a list
abbrev pub list_in : Node → Option (List Node)
list_in v = option_map values (as_list v)

-- the entries of a map, if the value is a map
abbrev pub map_in : Node → Option (List (Scalar × Node))
map_in v = option_map pairs (as_map v)

-- what stands at a key of a map, if it is of a kind; a value of another kind counts as absent
abbrev pub at : {A : Type 0} → (Node → Option A) → List ℕ → Node → Option A
at kind key v = option_and_then kind (get key v)

-- ---- texts of references ----

-- the parts of a text between the bytes c
abbrev pub parts : ℕ → List ℕ → List (List ℕ)
parts c text = slice_split (λ b. b == c) text

-- the last of these texts, or t where there are none
abbrev pub last_of : List ℕ → List (List ℕ) → List ℕ
last_of t [] = t
last_of t (u ∷ us) = last_of u us

-- the text before the first `#`, and that between the first and the second
abbrev pub head : List ℕ → List ℕ
head text = unwrap_or (slice_get (parts 35 text) 0) []

-- the text after the first `#`, up to the second or to the end, if there is a `#`
abbrev pub sub_context : List ℕ → Option (List ℕ)
sub_context text = slice_get (parts 35 text) 1

-- what a reference by scope begins with
abbrev pub scope_mark : List ℕ
scope_mark = codes "scope:"

-- what the name of a grammar's file ends with
abbrev pub file_ending : List ℕ
file_ending = codes ".sublime-syntax"

-- what comes after the mark of a scope
abbrev pub scope_text : List ℕ → Option (List ℕ)
scope_text name =
    if starts_with eqb name scope_mark then Some (drop (length scope_mark) name) else None

-- the name is that of a grammar's file
abbrev pub is_file : List ℕ → Bool
is_file name = ends_with eqb name file_ending

-- the text without the ending of a file, unless nothing is left
abbrev pub without_ending : List ℕ → List ℕ
without_ending t =
    if is_file t && nat_lt (length file_ending) (length t)
    then take (length t - length file_ending) t else t

-- the name of the syntax that a file holds: the part after the last `/`, without the ending
abbrev pub file_name : List ℕ → List ℕ
file_name text = without_ending (last_of [] (parts 47 text))

-- ---- lists of references ----

-- the value is a map
abbrev pub is_map : Node → Bool
is_map v = is_some (as_map v)

-- the list has no member
abbrev pub is_empty : {A : Type 0} → List A → Bool
is_empty [] = true
is_empty (x ∷ xs) = false

-- the list has a first value, and it passes the test
abbrev pub begins_with : (Node → Bool) → List Node → Bool
begins_with p [] = false
begins_with p (v ∷ vs) = p v

-- the value is a list, and its values are so
abbrev pub is_list_with : (List Node → Bool) → Node → Bool
is_list_with p v = list_is (list_in v)
  where
    list_is : Option (List Node) → Bool
    list_is None = false
    list_is (Some vs) = p vs

-- What a push or a set has is decided by the first member of its list. A text there is the first of
-- several names, and a list with a map in front is the first of several contexts. All else is one
-- reference, or no reference at all.
abbrev pub is_several : Node → Bool
is_several =
    is_list_with (begins_with (λ v. is_some (text_in v) || is_list_with (begins_with is_map) v))

-- the value is a list that begins with an empty list, and so names no context
abbrev pub is_none : Node → Bool
is_none = is_list_with (begins_with (is_list_with is_empty))

-- ---- values that the loader makes ----

-- the value that is this text
abbrev pub text_node : List ℕ → Node
text_node text = scalar (Text text)

-- the value that is this truth value
abbrev pub truth_node : Bool → Node
truth_node b = scalar (Truth b)

-- a map of these entries
abbrev pub entries_of : List (List ℕ × Node) → Entries
entries_of [] = no_entries
entries_of (e ∷ es) = entry (Text e.0) e.1 (entries_of es)

-- the value that is a map of these entries, in order
abbrev pub map_node : List (List ℕ × Node) → Node
map_node es = node.map (entries_of es)

-- an entry, where there is a value for it
abbrev pub perhaps_entry : List ℕ → Option Node → List (List ℕ × Node)
perhaps_entry key None = []
perhaps_entry key (Some v) = (key, v) ∷ []

-- a map of this one entry, where there is a value for it
abbrev pub perhaps_map : List ℕ → Option Node → List Node
perhaps_map key None = []
perhaps_map key (Some v) = map_node ((key, v) ∷ []) ∷ []

-- the entries of an item that leaves its context at a pattern, perhaps with captures
abbrev pub leaving : Node → Option Node → List (List ℕ × Node)
leaving pattern captures =
    (codes "match", pattern)
    ∷ ((codes "pop", truth_node true) ∷ perhaps_entry (codes "captures") captures)

-- the items of the context that an `embed` pushes first: it wants no prototype, has the
-- `embed_scope` on its text, and is left at the `escape`
abbrev pub escape_items : Node → Node → List Node
escape_items m escape =
    map_node ((codes "meta_include_prototype", truth_node false) ∷ [])
    ∷ (perhaps_map (codes "meta_content_scope") (get (codes "embed_scope") m)
    ++ map_node (leaving escape (get (codes "escape_captures") m)) ∷ [])

-- the items of the context that leaves wherever the text of this pattern stands ahead
abbrev pub ahead_items : List ℕ → List Node
ahead_items text = map_node (leaving (text_node (codes "(?=" ++ text ++ codes ")")) None) ∷ []

-- ---- For proofs and private functions alone ----

-- what a lent value stands for
abbrev pub lent : Option (Bor Yaml) → Option Node
lent v = option_map (λ w. view w.now) v
