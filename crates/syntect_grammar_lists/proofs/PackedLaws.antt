-- Rows of words, of which those that are equal are kept once.
use Rattle.std.proofs.Common.{◌≡◌, ◌<◌, ◌≤◌, ◌+◌, ◌*◌, ℕ, zero, suc, List, [], ◌∷◌, ◌++◌, length, get_or, take, drop, refl, sym, ap, subst, ◌∙◌, arith}
use Rattle.std.specs.List.{All, flat_map}
use Rattle.std.proofs.Math.Seq.{drop-append_seam, take-append_seam}
use Rattle.std.proofs.lemmas.List.{get_or-drop, get_or-take, get_or_append_left, get_or-append-add, get_or_default, length-append, length-take-le, drop-append-le, take-append-drop, take-append-le, take_all}
use Rattle.std.proofs.lemmas.Grind.{flat_map-append}
use Rattle.std.proofs.Common.{append_assoc, length-drop}
use Rattle.std.proofs.lemmas.List.Elements.{All-append}
use Rattle.syntect_grammar_lists.specs.Packed.{IsRow, row_at}

module _ (words : ℕ) where
  -- every row of a number is still that
  abbrev pub RowsStay : List ℕ → List ℕ → Type 0
  RowsStay old new = (n : ℕ) (r : List ℕ) → IsRow words old r n → IsRow words new r n

  abbrev pub IsWhole : List ℕ → ℕ → Type 0
  IsWhole bits n = n * words + words ≤ length bits

  pub rows_before : (bits more : List ℕ) → RowsStay bits (bits ++ more)
  rows_before bits more n r h = (
    omega (arith, h.0, length-append bits more),
    ap (take words) (drop-append-le (n * words) bits more (omega (arith, h.0)))
        ∙ take-append-le words (drop (n * words) bits) more (omega (arith, h.0, length-drop (n * words) bits)) ∙ h.1,
  )

  pub row_last : (bits row : List ℕ) (count : ℕ) → length bits ≡ count * words → length row ≡ words → IsRow words (bits ++ row) row count
  row_last bits row count l m = (
    omega (arith, l, m, length-append bits row),
    ap (λ n. take words (drop n (bits ++ row))) (sym l) ∙ ap (take words) (drop-append_seam bits row) ∙ take_all words row (omega (arith, m)),
  )

  -- a fact about all of them is one about the first, and about all others
  rest_of : (P : ℕ → Type 0) (n : ℕ) (ns : List ℕ) → All P (n ∷ ns) → All P ns
  rest_of P n ns h k d l = h (suc k) d (omega (arith, l))

  first_of : (P : ℕ → Type 0) (n : ℕ) (ns : List ℕ) → All P (n ∷ ns) → P n
  first_of P n ns h = h 0 n (omega arith)

  pub rows_whole : (old new : List ℕ) (ns : List ℕ) → RowsStay old new → All (IsWhole old) ns → All (IsWhole new) ns
  rows_whole old new ns s h k d l = (s (get_or ns k d) (row_at words old (get_or ns k d)) (h k d l, refl)).0

  pub rows_same : (old new : List ℕ) (ns : List ℕ) → RowsStay old new → All (IsWhole old) ns → flat_map (row_at words new) ns ≡ flat_map (row_at words old) ns
  rows_same old new [] s h = refl
  rows_same old new (n ∷ ns) s h = rw ((s n (row_at words old n) (first_of (IsWhole old) n ns h, refl)).1, rows_same old new ns s (rest_of (IsWhole old) n ns h)) refl

  length_row : (bits : List ℕ) (n : ℕ) → IsWhole bits n → length (row_at words bits n) ≡ words
  length_row bits n h = length-take-le words (drop (n * words) bits) (omega (arith, h, length-drop (n * words) bits))

  -- ---- a row more ----

  module _ (old new ns after : List ℕ) (n : ℕ) (row rest behind rows : List ℕ) (s : RowsStay old new) (e : after ≡ ns ++ n ∷ []) (is : IsRow words new row n) (front : row ≡ take words rest) (back : behind ≡ drop words rest)
      (h : All (IsWhole old) ns) (before : flat_map (row_at words old) ns ++ rest ≡ rows) where
    one : All (IsWhole new) (n ∷ [])
    one zero d l = is.0
    one (suc k) d l = absurd (omega (arith, l))

    pub more_whole : All (IsWhole new) after
    more_whole = subst (All (IsWhole new)) (sym e) (All-append (IsWhole new) ns (n ∷ []) (rows_whole old new ns s h) one)

    pub more_same : flat_map (row_at words new) after ++ behind ≡ rows
    more_same =
        let done : List ℕ = flat_map (row_at words old) ns in
        ap (λ l. l ++ behind) (ap (flat_map (row_at words new)) e ∙ flat_map-append (row_at words new) ns (n ∷ []) ∙ ap (λ l. l ++ (row_at words new n ++ [])) (rows_same old new ns s h))
        ∙ append_assoc done (row_at words new n ++ []) behind
        ∙ ap (λ l. done ++ l) (append_assoc (row_at words new n) [] behind ∙ ap (λ l. l ++ behind) (is.1 ∙ front) ∙ ap (λ l. take words rest ++ l) back ∙ take-append-drop words rest)
        ∙ before

  pub starts_same : (old new ns rest rows : List ℕ) → RowsStay old new → All (IsWhole old) ns → flat_map (row_at words old) ns ++ rest ≡ rows
      → take (length (flat_map (row_at words new) ns)) rows ≡ flat_map (row_at words new) ns
  starts_same old new ns rest rows s h e =
      let done : List ℕ = flat_map (row_at words old) ns in
      ap (λ l. take (length l) rows) (rows_same old new ns s h) ∙ ap (take (length done)) (sym e) ∙ take-append_seam done rest ∙ sym (rows_same old new ns s h)

  -- ---- a word of a row ----

  pub word_inside : (bits ns : List ℕ) (row word d e : ℕ) → word < words → row < length ns → All (IsWhole bits) ns
      → get_or (flat_map (row_at words bits) ns) (row * words + word) d ≡ get_or bits (get_or ns row e * words + word) d
  word_inside bits [] row word d e l m h = absurd (omega (arith, m))
  word_inside bits (n ∷ ns) zero word d e l m h =
      let at : 0 * words + word ≡ word = omega arith in
      ap (λ q. get_or (row_at words bits n ++ flat_map (row_at words bits) ns) q d) at
      ∙ get_or_append_left (row_at words bits n) (flat_map (row_at words bits) ns) d word (omega (arith, l, length_row bits n (first_of (IsWhole bits) n ns h)))
      ∙ get_or-take words (drop (n * words) bits) word d l ∙ get_or-drop (n * words) bits word d
  word_inside bits (n ∷ ns) (suc row) word d e l m h =
      let at : suc row * words + word ≡ length (row_at words bits n) + (row * words + word) = omega (arith, length_row bits n (first_of (IsWhole bits) n ns h)) in
      ap (λ q. get_or (row_at words bits n ++ flat_map (row_at words bits) ns) q d) at
      ∙ get_or-append-add (row_at words bits n) (flat_map (row_at words bits) ns) (row * words + word) d
      ∙ word_inside bits ns row word d e l (omega (arith, m)) (rest_of (IsWhole bits) n ns h)

  pub word_past : (bits ns : List ℕ) (row word d : ℕ) → length ns ≤ row → All (IsWhole bits) ns → get_or (flat_map (row_at words bits) ns) (row * words + word) d ≡ d
  word_past bits [] row word d l h = refl
  word_past bits (n ∷ ns) zero word d l h = absurd (omega (arith, l))
  word_past bits (n ∷ ns) (suc row) word d l h =
      let at : suc row * words + word ≡ length (row_at words bits n) + (row * words + word) = omega (arith, length_row bits n (first_of (IsWhole bits) n ns h)) in
      ap (λ q. get_or (row_at words bits n ++ flat_map (row_at words bits) ns) q d) at
      ∙ get_or-append-add (row_at words bits n) (flat_map (row_at words bits) ns) (row * words + word) d ∙ word_past bits ns row word d (omega (arith, l)) (rest_of (IsWhole bits) n ns h)

  pub word_found : (bits ns : List ℕ) (row word number past found : ℕ) → word < words → All (IsWhole bits) ns → (row < length ns) × (number ≡ get_or ns row 0) → found ≡ get_or bits (number * words + word) found
      → found ≡ get_or (flat_map (row_at words bits) ns) (row * words + word) past
  word_found bits ns row word number past found l h f is =
      let whole : number * words + words ≤ length bits = subst (IsWhole bits) (sym f.1) (h row 0 f.0) in
      is ∙ get_or_default bits (number * words + word) found past (omega (arith, whole, l)) ∙ ap (λ q. get_or bits (q * words + word) past) f.1 ∙ sym (word_inside bits ns row word past 0 l f.0 h)
