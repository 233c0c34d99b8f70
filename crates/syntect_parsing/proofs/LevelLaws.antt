-- Levels that are opened one by one.
use Rattle.std.proofs.Common.{◌≡◌, ◌≢◌, ℕ, ◌==◌, ◌+◌, ◌-◌, ◌<◌, suc, Bool, true, false, List, [], ◌∷◌, ◌++◌, length, drop, get_or, Option, refl, arith, length-drop, if◌then◌else◌}
use Rattle.std.proofs.lemmas.List.{append-nil}
use Rattle.std.proofs.lemmas.Bool.Decides.{nat_tests}
use Rattle.std.specs.Option.{option_to_list}
use Rattle.syntect_parsing.specs.syntect_grammar_contexts.Substitution.{Opening}
use Rattle.syntect_parsing.specs.Turn.{new_level, new_levels}
use Rattle.syntect_reading_choice.proofs.ListLaws.{drop_at, tested_true, tested_false}
use Rattle.syntect_parsing.specs.syntect_grammar_contexts.declared.context.ContextId.{ContextId}
use Rattle.syntect_parsing.specs.syntect_grammar.declared.syntax_set.SyntaxSet.{SyntaxSet}

one_of_rest : (set : SyntaxSet) (o : Opening) (kept : List ContextId) (w : Option ContextId) (id : ContextId) (rest : List ContextId)
    → new_levels set o kept w (id ∷ rest) ≡ new_level set o id (kept ++ (if length rest == 0 then option_to_list w else [])) ∷ new_levels set o [] w rest
one_of_rest set o kept w id [] = refl
one_of_rest set o kept w id (next ∷ rest) = let z : (suc (length rest) == 0) ≡ false = grind (arith, nat_tests) in rw (z, append-nil kept) refl

-- the level of the context at a place, and those of the rest
pub one_level : (set : SyntaxSet) (o : Opening) (kept : List ContextId) (w : Option ContextId) (ids : List ContextId) (i : ℕ) (id : ContextId) → i < length ids → id ≡ get_or ids i id
    → new_levels set o kept w (drop i ids) ≡ new_level set o id (kept ++ (if i + 1 == length ids then option_to_list w else [])) ∷ new_levels set o [] w (drop (i + 1) ids)
one_level set o kept w ids i id l e =
    let same : (length (drop (i + 1) ids) == 0) ≡ (i + 1 == length ids) = by (length (drop (i + 1) ids)) (length-drop (i + 1) ids) in
    rw (drop_at ids i id l e) (rw same at (one_of_rest set o kept w id (drop (i + 1) ids)))
  where
    by : (n : ℕ) → n ≡ length ids - (i + 1) → (n == 0) ≡ (i + 1 == length ids)
    by n f = decided (n == 0) (i + 1 == length ids) refl refl
      where
        decided : (x y : Bool) → (n == 0) ≡ x → (i + 1 == length ids) ≡ y → x ≡ y
        decided true true p q = refl
        decided false false p q = refl
        decided true false p q = let a : n ≡ 0 = tested_true n 0 p in let b : i + 1 ≢ length ids = tested_false (i + 1) (length ids) q in absurd (omega (arith, a, b, f, l))
        decided false true p q = let a : n ≢ 0 = tested_false n 0 p in let b : i + 1 ≡ length ids = tested_true (i + 1) (length ids) q in absurd (omega (arith, a, b, f, l))
