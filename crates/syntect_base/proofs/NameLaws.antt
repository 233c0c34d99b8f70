-- Names among bytes.
use Rattle.std.proofs.Common.{◌≡◌, ◌≢◌, ℕ, ◌+◌, ◌-◌, ◌<◌, ◌==◌, Bool, true, false, not, cond, List, [], ◌∷◌, ◌++◌, length, take, drop, refl, ap, sym, ◌∙◌, IsUtf8, Option, None, Some, arith}
use Rattle.std.specs.List.{filter_map, cons_option, slice_split, onto_first, position_or_len, before_first, after_first}
use Rattle.std.proofs.lemmas.List.{append-nil, take_all, drop-drop, length-drop, nil_from_length}
use Rattle.std.proofs.lemmas.List.Sums.{prefix_len-le-length}
use Rattle.std.proofs.lemmas.List.Elements.{filter_map-append}
use Rattle.std.proofs.lemmas.List.Splits.{slice_split_first}
use Rattle.std.specs.Str.{is_utf8}
use Rattle.std.proofs.lemmas.Str.{IsUtf8-nil, IsUtf8-from_is_utf8, is_utf8-from_IsUtf8}
use Rattle.syntect_base.specs.Names.{entry_name, entry_of, is_sought, lost_of, named, entries_in, lost_in}
use Rattle.syntect_base.specs.declared.utils.Sought.{Sought}

pub entry_text : (name : List ℕ) → IsUtf8 name → entry_of name ≡ entry_name name
entry_text name u = ap (λ (b : Bool). cond b (entry_name name) None) (is_utf8-from_IsUtf8 name u)

no_text : (name : List ℕ) (b : Bool) → is_utf8 name ≡ b → ¬ (IsUtf8 name) → b ≡ false
no_text name true e n = absurd (n (IsUtf8-from_is_utf8 name e))
no_text name false e n = refl

pub entry_none : (name : List ℕ) → ¬ (IsUtf8 name) → entry_of name ≡ None
entry_none name n = ap (λ (b : Bool). cond b (entry_name name) None) (no_text name (is_utf8 name) refl n)

-- a text is not lost, nor is a name that is not looked for; another one is
pub lost_text : (sought : Sought) (name : List ℕ) → IsUtf8 name → lost_of sought name ≡ None
lost_text sought name u = ap (λ (b : Bool). cond {A = Option (List ℕ)} b None (cond (is_sought sought name) (Some name) None)) (is_utf8-from_IsUtf8 name u)

lost_so : (sought : Sought) (name : List ℕ) → ¬ (IsUtf8 name) → is_sought sought name ≡ true → lost_of sought name ≡ Some name
lost_so sought name n s =
    ap (λ (b : Bool). cond {A = Option (List ℕ)} b None (cond (is_sought sought name) (Some name) None)) (no_text name (is_utf8 name) refl n)
    ∙ ap (λ (b : Bool). cond {A = Option (List ℕ)} b (Some name) None) s

pub lost_one : (sought : Sought) (name : List ℕ) → ¬ (IsUtf8 name) → is_sought sought name ≡ true → lost_of sought name ≢ None
lost_one sought name n s none = let e = lost_so sought name n s in cc

neither : (b : Bool) → cond {A = Option (List ℕ)} b None None ≡ None
neither true = refl
neither false = refl

abbrev is_nul : ℕ → Bool
is_nul b = b == 0

last_on : (x : ℕ) (xs : List ℕ) (b : Bool) → is_nul x ≡ b → position_or_len is_nul (x ∷ xs) ≡ length (x ∷ xs) → (position_or_len is_nul xs ≡ length xs → slice_split is_nul xs ≡ xs ∷ [])
    → slice_split is_nul (x ∷ xs) ≡ (x ∷ xs) ∷ []
last_on x xs true q e more = absurd (omega (arith, rw q at e))
last_on x xs false q e more =
    let one : slice_split is_nul xs ≡ xs ∷ [] = more (omega (arith, rw q at e)) in
    rw q (ap (onto_first x) one)

-- where no NUL stands, all is one name
last_name : (bytes : List ℕ) → position_or_len is_nul bytes ≡ length bytes → slice_split is_nul bytes ≡ bytes ∷ []
last_name [] e = refl
last_name (x ∷ xs) e = last_on x xs (is_nul x) refl e (last_name xs)

-- what is made of the names, where nothing is made of an empty one
module _ (f : List ℕ → Option (List ℕ)) (empty : f [] ≡ None) where
  no_names : named f [] ≡ []
  no_names = ap (λ (o : Option (List ℕ)). cons_option o []) empty

  all_one : (bytes : List ℕ) → position_or_len is_nul bytes ≡ length bytes → named f bytes ≡ filter_map f (bytes ∷ []) ++ named f []
  all_one bytes e =
      ap (filter_map f) (last_name bytes e) ∙ sym (append-nil (filter_map f (bytes ∷ []))) ∙ ap (λ (xs : List (List ℕ)). filter_map f (bytes ∷ []) ++ xs) (sym no_names)

  one_first : (bytes : List ℕ) → position_or_len is_nul bytes < length bytes → named f bytes ≡ filter_map f (before_first is_nul bytes ∷ []) ++ named f (after_first is_nul bytes)
  one_first bytes l = ap (filter_map f) (slice_split_first is_nul bytes 0 l) ∙ filter_map-append f (before_first is_nul bytes ∷ []) (slice_split is_nul (after_first is_nul bytes))

  module _ (bytes front rest : List ℕ) (n : ℕ) (at : n ≡ position_or_len is_nul bytes) (before : front ≡ take n bytes) (from : rest ≡ drop n bytes) where
    rest_length : length rest ≡ length bytes - n
    rest_length = ap length from ∙ length-drop n bytes

    -- the last name, after which no NUL stands
    at_end : length rest ≡ 0 → named f bytes ≡ filter_map f (front ∷ []) ++ named f rest
    at_end none =
        let all : position_or_len is_nul bytes ≡ length bytes = omega (arith, rest_length, prefix_len-le-length (λ b. not (is_nul b)) bytes) in
        let whole : front ≡ bytes = before ∙ take_all n bytes (omega (arith, all)) in
        all_one bytes all ∙ ap (λ (x : List ℕ). filter_map f (x ∷ []) ++ named f []) (sym whole)
        ∙ ap (λ (r : List ℕ). filter_map f (front ∷ []) ++ named f r) (sym (nil_from_length rest none))

    -- a name with its NUL
    at_nul : (behind : List ℕ) → 0 < length rest → behind ≡ drop 1 rest → named f bytes ≡ filter_map f (front ∷ []) ++ named f behind
    at_nul behind some past =
        let name : front ≡ before_first is_nul bytes = before ∙ ap (λ (m : ℕ). take m bytes) at in
        let others : behind ≡ after_first is_nul bytes = past ∙ ap (drop 1) from ∙ drop-drop 1 n bytes ∙ ap (λ (m : ℕ). drop (m + 1) bytes) at in
        one_first bytes (omega (arith, rest_length, at)) ∙ ap (λ (x : List ℕ). filter_map f (x ∷ []) ++ named f (after_first is_nul bytes)) (sym name)
        ∙ ap (λ (r : List ℕ). filter_map f (front ∷ []) ++ named f r) (sym others)

-- an empty name is none, and none is lost by it
no_entry : entry_of [] ≡ None
no_entry = neither (is_utf8 [])

none_lost : (sought : Sought) → lost_of sought [] ≡ None
none_lost sought = ap (λ (b : Bool). cond {A = Option (List ℕ)} b None (cond (is_sought sought []) (Some []) None)) (is_utf8-from_IsUtf8 [] IsUtf8-nil)

module _ (bytes front rest : List ℕ) (n : ℕ) (at : n ≡ position_or_len is_nul bytes) (before : front ≡ take n bytes) (from : rest ≡ drop n bytes) where
  pub entries_at_end : length rest ≡ 0 → entries_in bytes ≡ filter_map entry_of (front ∷ []) ++ entries_in rest
  entries_at_end none = at_end entry_of no_entry bytes front rest n at before from none

  pub lost_at_end : (sought : Sought) → length rest ≡ 0 → lost_in sought bytes ≡ filter_map (lost_of sought) (front ∷ []) ++ lost_in sought rest
  lost_at_end sought none = at_end (lost_of sought) (none_lost sought) bytes front rest n at before from none

  pub entries_at_nul : (behind : List ℕ) → 0 < length rest → behind ≡ drop 1 rest → entries_in bytes ≡ filter_map entry_of (front ∷ []) ++ entries_in behind
  entries_at_nul behind some past = at_nul entry_of no_entry bytes front rest n at before from behind some past

  pub lost_at_nul : (sought : Sought) → (behind : List ℕ) → 0 < length rest → behind ≡ drop 1 rest → lost_in sought bytes ≡ filter_map (lost_of sought) (front ∷ []) ++ lost_in sought behind
  lost_at_nul sought behind some past = at_nul (lost_of sought) (none_lost sought) bytes front rest n at before from behind some past
