-- What a value is, and what a look-up finds in it.
use Rattle.std.specs.Prelude.{ℕ, ℤ, Bool, true, false, not, ◌||◌, if◌then◌else◌, List, Option, Some, None}
use Rattle.std.specs.List.{list_any}
use Rattle.std.specs.Ordering.{int_eq}
use Rattle.std.specs.Str.{bytes_eq}
use Rattle.syntect_yaml.specs.declared.value.Scalar.{Scalar}
use Rattle.syntect_yaml.specs.declared.value.Scalar.TheVariants.{Text, Number, Truth, Null}

mutual
  -- a scalar, a list of values, or a map from scalars to values
  pub data Node : Type 0 where
    scalar : Scalar → Node
    list : Items → Node
    map : Entries → Node

  -- the values of a list, in order
  pub data Items : Type 0 where
    no_items : Items
    item : Node → Items → Items

  -- the entries of a map, in order
  pub data Entries : Type 0 where
    no_entries : Entries
    entry : Scalar → Node → Entries → Entries

-- the text of a scalar that is one
abbrev pub text_of : Scalar → Option (List ℕ)
text_of (Text s) = Some s
text_of (Number z) = None
text_of (Truth b) = None
text_of Null = None

-- the number, and the truth value
abbrev pub number_of : Scalar → Option ℤ
number_of (Text s) = None
number_of (Number z) = Some z
number_of (Truth b) = None
number_of Null = None

-- the truth value of a scalar that is one
abbrev pub truth_of : Scalar → Option Bool
truth_of (Text s) = None
truth_of (Number z) = None
truth_of (Truth b) = Some b
truth_of Null = None

abbrev pub is_null : Scalar → Bool
is_null (Text s) = false
is_null (Number z) = false
is_null (Truth b) = false
is_null Null = true

-- what a value of each kind has
abbrev pub as_scalar : Node → Option Scalar
as_scalar (scalar s) = Some s
as_scalar (list vs) = None
as_scalar (map es) = None

-- the values of a node that is a list
abbrev pub as_list : Node → Option Items
as_list (scalar s) = None
as_list (list vs) = Some vs
as_list (map es) = None

-- the entries of a node that is a map
abbrev pub as_map : Node → Option Entries
as_map (scalar s) = None
as_map (list vs) = None
as_map (map es) = Some es

-- the values, and one more at the end
abbrev pub push_item : Items → Node → Items
push_item no_items v = item v no_items
push_item (item w vs) v = item w (push_item vs v)

-- the entries, and one more at the end
abbrev pub push_entry : Entries → Scalar → Node → Entries
push_entry no_entries k v = entry k v no_entries
push_entry (entry l w es) k v = entry l w (push_entry es k v)

-- the two scalars are equal: of one kind, and alike
abbrev pub same_scalar : Scalar → Scalar → Bool
same_scalar (Text s) (Text t) = bytes_eq s t
same_scalar (Number x) (Number y) = int_eq x y
same_scalar (Truth a) (Truth b) = if a then b else not b
same_scalar Null Null = true
same_scalar _ _ = false

-- an entry has this key
abbrev pub has_key : Scalar → Entries → Bool
has_key k no_entries = false
has_key k (entry l v es) = same_scalar l k || has_key k es

-- the scalar is this text
abbrev pub is_text : List ℕ → Scalar → Bool
is_text t (Text s) = bytes_eq s t
is_text t (Number z) = false
is_text t (Truth b) = false
is_text t Null = false

-- the value of the entry whose key is this text
abbrev pub value_at : List ℕ → Entries → Option Node
value_at t no_entries = None
value_at t (entry k v es) = if is_text t k then Some v else value_at t es

-- the value that a map has at the key of this text; other nodes have none
abbrev pub get : List ℕ → Node → Option Node
get t (scalar s) = None
get t (list vs) = None
get t (map es) = value_at t es

-- ---- For proofs and private functions alone ----

-- one of the scalars is equal to this one
abbrev pub has_scalar : Scalar → List Scalar → Bool
has_scalar k ks = list_any (λ l. same_scalar l k) ks
