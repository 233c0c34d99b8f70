use Rattle.std.proofs.Common.{◌≡◌, ◌∷◌, List, String, Global, ap, subst, ◌∙◌, Some, rules}
use Rattle.serde_json.specs.declared.value.Value.{Value}
use Rattle.syntect_metadata.proofs.TextLaws.{HasRead, one_read}
use Rattle.syntect_metadata.proofs.items.texts.Goals as goal

pub loop-name-preserved-in_ok-insert : goal.loop-name-preserved-in_ok-insert
loop-name-preserved-in_ok-insert c =
    let ahead : c.loop-name.name-iterator ≡ (c.in-Some.name.now, c.in-Some.value.now) ∷ c.next.new.self = search rules in
    one_read c.args.members.now.entries c.next.new.self (c.in-Some.name.now, c.in-Some.value.now) c.loop-name.texts.entries c.insert.new.self.entries c.in_ok-name.name c.in_ok-text.text
    (ap Some c.in_ok-text.ensures ∙ c.in-Some-as_str.ensures) (c.in_ok-name.ensures ∙ c.as_str-in-loop-name.ensures.value) c.in_ok-insert.ensures.entries
    (subst (λ (es : List (String Global × Value)). HasRead c.args.members.now.entries es c.loop-name.texts.entries) ahead c.loop-name.invariant)

pub loop-name-preserved : goal.loop-name-preserved
loop-name-preserved c =
    let ahead : c.loop-name.name-iterator ≡ (c.in-Some.name.now, c.in-Some.value.now) ∷ c.next.new.self = search rules in
    one_read c.args.members.now.entries c.next.new.self (c.in-Some.name.now, c.in-Some.value.now) c.loop-name.texts.entries c.insert.new.self.entries c.in_ok-name.name c.in_ok-text.text
    (ap Some c.in_ok-text.ensures ∙ c.in-Some-as_str.ensures) (c.in_ok-name.ensures ∙ c.as_str-in-loop-name.ensures.value) c.in_ok-insert.ensures.entries
    (subst (λ (es : List (String Global × Value)). HasRead c.args.members.now.entries es c.loop-name.texts.entries) ahead c.loop-name.invariant)
