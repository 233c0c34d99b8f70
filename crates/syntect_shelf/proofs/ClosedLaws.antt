-- Where nothing is left to be read, the shelf is closed.
use Rattle.std.proofs.Common.{◌≡◌, ℕ, zero, suc, ◌<◌, Bool, true, false, not, List, [], ◌∷◌, length, cond, Option, Some, None, slice_get, refl, ap, sym, ◌∙◌, arith, codes, if◌then◌else◌}
use Rattle.std.specs.Option.{option_and_then, option_to_list}
use Rattle.std.specs.Prelude.{IfSome}
use Rattle.syntect_shelf.specs.Places.{AreWhole, IsClosedShelf, last_of_name, places_of_definition}
use Rattle.syntect_shelf.specs.Unread.{whole_by, unread_among, unread_from, unread_plain, IsUnread, of_plain_text, of_whole}
use Rattle.syntect_grammar.specs.syntect_grammar_loader.declared.definition.SyntaxDefinition.{SyntaxDefinition}

in_range : {A : Type 0} (xs : List A) (i : ℕ) (x : A) → slice_get xs i ≡ Some x → i < length xs
in_range [] i x e = cc
in_range (y ∷ xs) zero x e = omega arith
in_range (y ∷ xs) (suc i) x e = let k : i < length xs = in_range xs i x e in omega arith

all_whole : (flags : List Bool) (places : List ℕ) → unread_among flags places ≡ None → AreWhole (whole_by flags) places
all_whole flags [] e = tt
all_whole flags (i ∷ places) e = by (whole_by flags i) refl (all_whole flags places) e
  where
    by : (b : Bool) → whole_by flags i ≡ b → (unread_among flags places ≡ None → AreWhole (whole_by flags) places)
        → cond (not b) (Some i) (unread_among flags places) ≡ None → AreWhole (whole_by flags) (i ∷ places)
    by true w f k = (w, f k)
    by false w f k = cc

pub closed_shelf : (flags : List Bool) (ds : List SyntaxDefinition) → ((i : ℕ) → i < length ds → unread_from ds flags i ≡ None)
    → AreWhole (whole_by flags) (option_to_list (last_of_name (codes "Plain Text") ds)) → IsClosedShelf (whole_by flags) ds
closed_shelf flags ds h p = record {
  plain = p;
  leads = λ i d w e. all_whole flags (places_of_definition ds d) (none i d w e);
}
  where
    none : (i : ℕ) (d : SyntaxDefinition) → whole_by flags i ≡ true → slice_get ds i ≡ Some d → unread_among flags (places_of_definition ds d) ≡ None
    none i d w e =
        let f : unread_from ds flags i ≡ unread_among flags (places_of_definition ds d)
        = ap (λ (b : Bool). if b then option_and_then (λ d. unread_among flags (places_of_definition ds d)) (slice_get ds i) else None) w
        ∙ ap (λ (o : Option SyntaxDefinition). option_and_then (λ d. unread_among flags (places_of_definition ds d)) o) e in
        sym f ∙ h i (in_range ds i d e)

-- what is found is still to be read
pub unread_so : (flags : List Bool) (places : List ℕ) (place : ℕ) → unread_among flags places ≡ Some place → whole_by flags place ≡ false
unread_so flags [] place e = cc
unread_so flags (i ∷ places) place e = by (whole_by flags i) refl (unread_so flags places place) e
  where
    by : (b : Bool) → whole_by flags i ≡ b → (unread_among flags places ≡ Some place → whole_by flags place ≡ false)
        → cond (not b) (Some i) (unread_among flags places) ≡ Some place → whole_by flags place ≡ false
    by true w f k = f k
    by false w f k = let h : i ≡ place = cc in rw (← h) w

pub unread_there : (flags : List Bool) (ds : List SyntaxDefinition) (i place : ℕ) → unread_from ds flags i ≡ Some place → whole_by flags place ≡ false
unread_there flags ds i place e = by (whole_by flags i) (slice_get ds i) e
  where
    by : (b : Bool) (o : Option SyntaxDefinition) → (if b then option_and_then (λ d. unread_among flags (places_of_definition ds d)) o else None) ≡ Some place → whole_by flags place ≡ false
    by true None k = cc
    by true (Some d) k = unread_so flags (places_of_definition ds d) place k
    by false o k = cc

pub closed_by : (flags : List Bool) (ds : List SyntaxDefinition) → ((i : ℕ) → i < length ds → unread_from ds flags i ≡ None)
    → unread_among flags (option_to_list (last_of_name (codes "Plain Text") ds)) ≡ None → IsClosedShelf (whole_by flags) ds
closed_by flags ds h p = closed_shelf flags ds h (all_whole flags (option_to_list (last_of_name (codes "Plain Text") ds)) p)

-- what was found is still to be read
pub of_plain_found : (ds : List SyntaxDefinition) (flags : List Bool) (found : Option ℕ) → found ≡ unread_plain ds flags → IfSome found (IsUnread ds flags)
of_plain_found ds flags None e = tt
of_plain_found ds flags (Some place) e = of_plain_text (sym e)

pub of_whole_found : (ds : List SyntaxDefinition) (flags : List Bool) (i : ℕ) (found : Option ℕ) → found ≡ unread_from ds flags i → IfSome found (IsUnread ds flags)
of_whole_found ds flags i None e = tt
of_whole_found ds flags i (Some place) e = of_whole i (sym e)

-- and isn't whole
pub still_unread : (ds : List SyntaxDefinition) (flags : List Bool) (place : ℕ) → IsUnread ds flags place → whole_by flags place ≡ false
still_unread ds flags place (of_plain_text e) = unread_so flags (option_to_list (last_of_name (codes "Plain Text") ds)) place e
still_unread ds flags place (of_whole i e) = unread_there flags ds i place e
