-- A style sheet while it is written.
use Rattle.std.proofs.Common.{◌≡◌, ℕ, Bool, true, false, List, [], ◌∷◌, ◌++◌, refl, sym, ap, ◌∙◌, append_assoc, codes}
use Rattle.std.specs.List.{flat_map}
use Rattle.syntect_writers.specs.Left.{rule_left}
use Rattle.syntect_writers.specs.Sheet.{rule_body, rule_under, path_selectors, has_path}
use Rattle.syntect_writers.specs.syntect_scope.declared.selector.ScopeSelector.{ScopeSelector}
use Rattle.syntect_writers.proofs.SpanLaws.{three_joined}
use Rattle.syntect_theme.specs.declared.style.StyleModifier.{StyleModifier}

left_others : (ps : List (List ℕ)) (style : StyleModifier) → rule_left false ps style ≡ flat_map (λ p. codes ", " ++ p) ps ++ rule_body style
left_others [] style = refl
left_others (p ∷ ps) style =
    ap (λ (l : List ℕ). codes ", " ++ (p ++ l)) (left_others ps style)
    ∙ ap (λ (l : List ℕ). codes ", " ++ l) (sym (append_assoc p (flat_map (λ p. codes ", " ++ p) ps) (rule_body style)))

-- nothing is written yet
pub left_all : (ps : List (List ℕ)) (style : StyleModifier) → rule_left true ps style ≡ rule_under ps style
left_all [] style = refl
left_all (p ∷ ps) style = ap (λ (l : List ℕ). p ++ l) (left_others ps style) ∙ sym (append_assoc p (flat_map (λ p. codes ", " ++ p) ps) (rule_body style))

-- the first selector, and the others
pub selectors_first : (prefix : List ℕ) (repo : List (List ℕ)) (s : ScopeSelector) (ss : List ScopeSelector) → path_selectors prefix repo (s ∷ ss) ≡ path_selectors prefix repo (s ∷ []) ++ path_selectors prefix repo ss
selectors_first prefix repo s ss = by_case (has_path s) refl
  where
    by_case : (b : Bool) → has_path s ≡ b → path_selectors prefix repo (s ∷ ss) ≡ path_selectors prefix repo (s ∷ []) ++ path_selectors prefix repo ss
    by_case true e = rw e refl
    by_case false e = rw e refl

-- four texts that are put last one after another
pub four_joined : (o a b c d x y z w : List ℕ) → x ≡ o ++ a → y ≡ x ++ b → z ≡ y ++ c → w ≡ z ++ d → w ≡ o ++ (a ++ (b ++ (c ++ d)))
four_joined o a b c d x y z w e f g h =
    h ∙ ap (λ (l : List ℕ). l ++ d) (three_joined o a b c x y z e f g) ∙ append_assoc o (a ++ (b ++ c)) d
    ∙ ap (λ (l : List ℕ). o ++ l) (append_assoc a (b ++ c) d ∙ ap (λ (l : List ℕ). a ++ l) (append_assoc b c d))
