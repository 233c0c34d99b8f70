use Rattle.std.proofs.Common.{◌≡◌, ◌||◌, not, true, cond, sym, ap, ◌∙◌}
use Rattle.std.specs.Ordering.{is_eq}
use Rattle.syntect_yaml.specs.contracts.value.ScalarOrd.TheImpl.{cmp-value}
use Rattle.syntect_yaml.specs.declared.value.Scalar.{Scalar}
use Rattle.syntect_yaml.specs.Node.{same_scalar, has_scalar}
use Rattle.syntect_yaml.proofs.KeyLaws.{contains_is, one_more}
use Rattle.syntect_yaml.proofs.keys.add_key.Goals as goal

pub returns-clause-added : goal.returns-clause-added
returns-clause-added c =
    let cloned : c.in_ok-clone.field-0 ≡ c.args.key.now = c.in_ok-clone.ensures.cases in
    c.in_ok-insert.ensures.added ∙ ap not (contains_is c.args.keys.now c.in_ok-clone.field-0 ∙ ap (λ (k : Scalar). has_scalar k c.args.keys.now.keys) cloned)

pub returns-clause-updates : goal.returns-clause-updates
returns-clause-updates c q =
    let k = c.in_ok-clone.field-0 in
    let cloned : c.in_ok-clone.field-0 ≡ c.args.key.now = c.in_ok-clone.ensures.cases in
    one_more k q c.args.keys.now.keys c.insert.new.self.keys (sym (contains_is c.insert.new.self q) ∙ c.in_ok-insert.ensures.updates.0 q ∙ ap (λ b. cond (is_eq (cmp-value.it k q)) true b) (contains_is c.args.keys.now q))
    ∙ ap (λ (l : Scalar). same_scalar l q || has_scalar q c.args.keys.now.keys) cloned
