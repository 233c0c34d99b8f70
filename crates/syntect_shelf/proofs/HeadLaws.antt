-- Atoms keep their numbers as a scope is taken up.
use Rattle.std.proofs.Common.{◌≡◌, ℕ, Bool, true, false, cond, List, [], ◌∷◌, ◌++◌, ◌≤◌, length, length-take, is_some, IsUtf8, Option, Some, subst, ap, sym, ◌∙◌, arith}
use Rattle.std.proofs.lemmas.List.{take-append-le}
use Rattle.syntect_grammar.specs.syntect_scope.Repository.{place_in, with_atom, with_atoms}
use Rattle.syntect_grammar_limits.specs.syntect_grammar_loader.LoadingSteps.{KeepsAtoms, Begins}
use Rattle.syntect_grammar_limits.specs.syntect_grammar_loader.declared.definition.SyntaxDefinition.{SyntaxDefinition}
use Rattle.syntect_shelf.specs.Heads.{IsHeadOf, IsFront, IsHeadIn, in_front, in_whole}
use Rattle.syntect_yaml.specs.Node.{Node}
use Rattle.syntect_yaml.specs.Yaml.{yaml_of}

keeps_last : (old repo : List (List ℕ)) (t : List ℕ) → Begins old repo → Begins old (repo ++ t ∷ [])
keeps_last old repo t h =
    let within : length old ≤ length repo = omega (arith, ap length (sym h), length-take {A = List ℕ} (length old) repo) in
    take-append-le (length old) repo (t ∷ []) within ∙ h

keeps_atom : (repo : List (List ℕ)) (t : List ℕ) (b : Bool) → KeepsAtoms repo (cond b repo (repo ++ t ∷ []))
keeps_atom repo t true = λ old h. h
keeps_atom repo t false = λ old h. keeps_last old repo t h

keeps_atoms : (ts repo : List (List ℕ)) → KeepsAtoms repo (with_atoms repo ts)
keeps_atoms [] repo = λ old h. h
keeps_atoms (t ∷ ts) repo = λ old h. keeps_atoms ts (with_atom repo t) old (keeps_atom repo t (is_some (place_in repo t)) old h)

-- the scope's atoms are taken up
pub keeps_built : (old new ts : List (List ℕ)) → new ≡ with_atoms old ts → KeepsAtoms old new
keeps_built old new ts e = λ first h. rw e (keeps_atoms ts old first h)

-- or none
pub keeps_same : (old new : List (List ℕ)) → new ≡ old → KeepsAtoms old new
keeps_same old new e = λ first h. rw e h

-- a head of a front, and of the whole text
pub front_head : (bytes : List ℕ) (fallback : Option (List ℕ)) (repo : List (List ℕ)) (v : Node) (d : SyntaxDefinition) → ((front : List ℕ) × IsFront bytes front × (yaml_of front ≡ Some (Some v))) → IsHeadOf v fallback repo d → IsHeadIn bytes fallback repo d
front_head bytes fallback repo v d f h = in_front {front = f.0} {v = v} f.1 f.2 h

pub whole_head : (bytes text : List ℕ) (fallback : Option (List ℕ)) (repo : List (List ℕ)) (d : SyntaxDefinition) → IsUtf8 bytes → text ≡ bytes → ((v : Node) × (yaml_of text ≡ Some (Some v)) × IsHeadOf v fallback repo d) → IsHeadIn bytes fallback repo d
whole_head bytes text fallback repo d u same h = in_whole {v = h.0} u (subst (λ (t : List ℕ). yaml_of t ≡ Some (Some h.0)) same h.1) h.2
