-- Where matches of nodes can begin, kept by numbers of what is known.
use Rattle.std.proofs.Common.{◌≡◌, ◌<◌, ◌≤◌, ℕ, List, [], ◌∷◌, ◌++◌, length, get_or, Option, Some, None, refl, sym, ap, ◌∙◌, arith}
use Rattle.std.specs.Prelude.{slice_get}
use Rattle.std.specs.Option.{option_map, unwrap_or}
use Rattle.std.proofs.Math.Seq.{get_or-append_seam}
use Rattle.std.proofs.lemmas.List.{get_or_append_left, get_or_default, length-append, length-map, map-append}
use Rattle.std.proofs.lemmas.List.Elements.{All-head, All-push, All-tail}
use Rattle.std.proofs.lemmas.Option.{get_or_from_slice_get, slice_get-get_or, slice_get-map, slice_get_past, slice_get_read, slice_get_within, unwrap_or-slice_get}
use Rattle.syntect_pattern_table.specs.PlaceLists.{AreKnown, places_by_number}
use Rattle.syntect_pattern_table.specs.Starts.{none_there}
use Rattle.syntect_pattern_table.specs.declared.starts.Places.{Places}

-- all that is known stays known, by its number
abbrev pub Stays : List Places → List Places → Type 0
Stays old new = (n : ℕ) (p : Places) → slice_get old n ≡ Some p → slice_get new n ≡ Some p

-- it stays so when more is added
pub stays_before : (xs ys : List Places) → Stays xs (xs ++ ys)
stays_before xs ys n p e =
    let l : n < length xs = slice_get_within xs n p e in
    slice_get-get_or (xs ++ ys) n p (omega (arith, l, length-append xs ys)) ∙ ap (λ q. Some q) (get_or_append_left xs ys p n l ∙ get_or_from_slice_get xs n p p e)

-- what is added has the next number
pub stands_last : (xs : List Places) (p : Places) → slice_get (xs ++ p ∷ []) (length xs) ≡ Some p
stands_last xs p = slice_get_read (xs ++ p ∷ []) (length (xs ++ p ∷ [])) (length xs) p refl (omega (arith, length-append xs (p ∷ []))) (sym (get_or-append_seam xs p [] p))

-- what has a number keeps it
same_number : (old new : List Places) (n : ℕ) → Stays old new → n < length old → slice_get new n ≡ Some (get_or old n none_there)
same_number old new n s l = s n (get_or old n none_there) (slice_get-get_or old n none_there l)

-- the numbers are still those of known places
pub known_stay : (old new : List Places) (ns : List ℕ) → Stays old new → AreKnown old ns → AreKnown new ns
known_stay old new ns s h k d l =
    let n : ℕ = get_or ns k d in
    slice_get_within new n (get_or old n none_there) (same_number old new n s (h k d l))

-- so they are with one more, also where more is known by then
pub known_pushed : (old new : List Places) (ns : List ℕ) (n : ℕ) (p : Places) → Stays old new → AreKnown old ns → slice_get new n ≡ Some p → AreKnown new (ns ++ n ∷ [])
known_pushed old new ns n p s h e = All-push (λ m. m < length new) ns n (known_stay old new ns s h) (slice_get_within new n p e)

-- the list stays as it is where more is known
pub by_number_stays : (old new : List Places) (ns : List ℕ) → Stays old new → AreKnown old ns → places_by_number new ns ≡ places_by_number old ns
by_number_stays old new [] s h = refl
by_number_stays old new (m ∷ ns) s h =
    let first : slice_get new m ≡ Some (get_or old m none_there) = same_number old new m s (All-head (λ n. n < length old) m ns h) in
    rw (get_or_from_slice_get new m (get_or old m none_there) none_there first, by_number_stays old new ns s (All-tail (λ n. n < length old) m ns h)) refl

-- the list with one more
pub by_number_pushed : (old new : List Places) (ns : List ℕ) (n : ℕ) (p : Places) → Stays old new → AreKnown old ns → slice_get new n ≡ Some p
    → places_by_number new (ns ++ n ∷ []) ≡ places_by_number old ns ++ p ∷ []
by_number_pushed old new ns n p s h e =
    map-append (λ m. get_or new m none_there) ns (n ∷ [])
    ∙ ap (λ ps. ps ++ get_or new n none_there ∷ []) (by_number_stays old new ns s h)
    ∙ ap (λ q. places_by_number old ns ++ q ∷ []) (get_or_from_slice_get new n p none_there e)

-- each of the numbers is that of known places
pub known_at : (known : List Places) (ns : List ℕ) (k n : ℕ) → AreKnown known ns → k < length ns → n ≡ get_or ns k n → n < length known
known_at known ns k n h l e = omega (arith, h k n l, e)

-- what stands at a place is what its number tells
pub by_number_at : (known : List Places) (ns : List ℕ) (k n : ℕ) (p : Places) → k < length ns → n ≡ get_or ns k n → n < length known → p ≡ get_or known n p → Some p ≡ slice_get (places_by_number known ns) k
by_number_at known ns k n p l e inside is =
    ap (λ q. Some q) (is ∙ get_or_default known n p none_there inside)
    ∙ sym (slice_get-map (λ m. get_or known m none_there) ns k ∙ ap (option_map (λ m. get_or known m none_there)) (slice_get_read ns (length ns) k n refl l e))

-- nothing stands past the last number
pub by_number_past : (known : List Places) (ns : List ℕ) (k : ℕ) → length ns ≤ k → None ≡ slice_get (places_by_number known ns) k
by_number_past known ns k l = sym (slice_get_past (places_by_number known ns) k (omega (arith, l, length-map ns (λ m. get_or known m none_there))))

-- what stands at a place, or the other one past the end
pub places_or : (ps : List Places) (k : ℕ) (o : Option Places) (q d : Places) → o ≡ slice_get ps k → q ≡ unwrap_or o d → q ≡ get_or ps k d
places_or ps k o q d e f = f ∙ ap (λ (r : Option Places). unwrap_or r d) e ∙ unwrap_or-slice_get ps k d
