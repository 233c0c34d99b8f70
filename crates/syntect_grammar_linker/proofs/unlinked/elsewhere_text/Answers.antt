use Rattle.std.proofs.Common.{◌≡◌, ◌++◌, List, ℕ, ap, ◌∙◌}
use Rattle.std.specs.Prelude.{string_bytes, codes}
use Rattle.std.proofs.lemmas.List.{append_assoc}
use Rattle.syntect_grammar_linker.specs.Unlinked.{sub_context_text, truth_text}
use Rattle.syntect_grammar_linker.proofs.unlinked.elsewhere_text.Goals as goal

joined : (s a t b x y z w : List ℕ) → x ≡ s → y ≡ x ++ a → z ≡ y ++ t → w ≡ z ++ b → w ≡ s ++ (a ++ (t ++ b))
joined s a t b x y z w e f g h =
    h ∙ ap (λ (l : List ℕ). l ++ b) (g ∙ ap (λ (l : List ℕ). l ++ t) (f ∙ ap (λ (l : List ℕ). l ++ a) e))
    ∙ append_assoc (s ++ a) t b ∙ append_assoc s a (t ++ b)

pub returns : goal.returns
returns c =
    joined (sub_context_text c.args.sub_context.now) (codes ", with_escape: ") (truth_text c.args.with_escape) (codes " }")
    (string_bytes c.in_ok-text.text) (string_bytes c.push_str.new.self) (string_bytes c.push_str-2.new.self) (string_bytes c.push_str-3.new.self)
    c.in_ok-text.ensures c.in_ok-push_str.ensures.bytes (c.in_ok-push_str-2.ensures.bytes ∙ ap (λ (l : List ℕ). string_bytes c.push_str.new.self ++ l) c.truth_text.ensures) c.in_ok-push_str-3.ensures.bytes
