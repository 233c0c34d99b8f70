-- Tables of names.
use Rattle.std.proofs.Common.{◌≡◌, ℕ, List, [], ◌∷◌, Bool, true, false, Some, map, refl, ap, nat_eq}
use Rattle.std.specs.Prelude.{codes, option_map, find, if◌then◌else◌}
use lib.Pointwise.{pointwise}
use Prim.Native.String.{String}
use Rattle.syntect_pattern.specs.Sets.{Set}
use Rattle.syntect_pattern.specs.NamedSets.{set_of_named}
use Rattle.syntect_pattern.specs.Reading.{Text, spells}
use Rattle.syntect_pattern.specs.Escapes.{named_set, category_names}
use Rattle.syntect_pattern.specs.Classes.{posix_names}
use Rattle.syntect_pattern_words.specs.Names.{entry_named}
use Rattle.syntect_pattern.specs.declared.named.Named.{Named}
use Rattle.syntect_pattern_words.specs.declared.names.TheConstants.{CATEGORIES, BRACKETS}

abbrev of_name : String × Set → List ℕ × Set
of_name n = (codes n.0, n.1)

abbrev of_entry : List ℕ × Named → List ℕ × Set
of_entry e = (e.0, set_of_named e.1)

pub same_names : (ns : List (String × Set)) (es : List (List ℕ × Named)) → map of_name ns ≡ map of_entry es → (t : Text)
    → named_set ns t ≡ option_map set_of_named (entry_named es t)
unfolding named_set
same_names [] [] e t = refl
same_names [] (x ∷ es) e t = cc
same_names (n ∷ ns) [] e t = cc
same_names (n ∷ ns) (x ∷ es) e t =
    let head : of_name n ≡ of_entry x = cc in
    let tail : map of_name ns ≡ map of_entry es = cc in
    step (pointwise nat_eq t (codes n.0)) (pointwise nat_eq t x.0) (ap (λ (p : List ℕ × Set). pointwise nat_eq t p.0) head) (ap (λ (p : List ℕ × Set). p.1) head) (same_names ns es tail t)
  where
    step : (a b : Bool) → a ≡ b → n.1 ≡ set_of_named x.1 → option_map (λ entry. entry.1) (find (λ entry. spells entry.0 t) ns) ≡ option_map set_of_named (entry_named es t)
        → option_map (λ (entry : String × Set). entry.1) (if a then Some n else find (λ entry. spells entry.0 t) ns) ≡ option_map set_of_named (if b then Some x.1 else entry_named es t)
    step true true s e h = ap Some e
    step true false s e h = cc
    step false true s e h = cc
    step false false s e h = h

pub categories_are : (t : Text) → named_set category_names t ≡ option_map set_of_named (entry_named (map (λ e. (e.0.now, e.1)) CATEGORIES) t)
categories_are t = same_names category_names (map (λ e. (e.0.now, e.1)) CATEGORIES) refl t

pub brackets_are : (t : Text) → named_set posix_names t ≡ option_map set_of_named (entry_named (map (λ e. (e.0.now, e.1)) BRACKETS) t)
brackets_are t = same_names posix_names (map (λ e. (e.0.now, e.1)) BRACKETS) refl t
