use Rattle.std.proofs.Common.{◌≡◌, ℕ, ◌+◌, List, length, rules, subst, sym, arith}
use Rattle.std.specs.Option.{option_copied}
use Rattle.syntect_regex.specs.syntect_pattern_compile.Compiled.{Compiles, IsCompiled}
use Rattle.syntect_pattern_seek.specs.Prospect.{IsProspectOf}
use Rattle.syntect_pattern_seek.proofs.DepthLaws.{on_ok-map}
use Rattle.syntect_regex.proofs.TryLaws.{try-alone, try-searched}
use Rattle.syntect_regex.proofs.regex.Regex.match_at_known.Goals as goal

pub returns-then-rules_out-clause-steps : goal.returns-then-rules_out-clause-steps
returns-then-rules_out-clause-steps c = λ easy.
    try-alone c.args.self.now (length c.args.text.now) c.args.meter.now.made c.spend.new.self.made c.try_steps.result c.spend.ensures.most (omega (arith, c.try_steps.ensures.bound))

pub returns-in_default-clause-steps : goal.returns-in_default-clause-steps
returns-in_default-clause-steps c = λ easy.
    try-alone c.args.self.now (length c.args.text.now) c.args.meter.now.made c.spend.new.self.made c.try_steps.result c.spend.ensures.most (omega (arith, c.try_steps.ensures.bound))

pub returns-then-not-is_left-clause-steps : goal.returns-then-not-is_left-clause-steps
returns-then-not-is_left-clause-steps c = λ easy.
    try-alone c.args.self.now (length c.args.text.now) c.args.meter.now.made c.spend-2.new.self.made (c.try_steps.result + c.look_steps.result)
    (omega (arith, c.spend.ensures.most, c.spend-2.ensures.most)) (omega (arith, c.try_steps.ensures.bound, c.look_steps.ensures))

pub returns-clause-steps : goal.returns-clause-steps
returns-clause-steps c = λ easy.
    let is : IsCompiled c.args.self.now c.in-Some.program.now = subst (λ o. Compiles c.args.self.now (option_copied o)) c.in-Some.is c.in_ok-program.ensures in
    let same : c.as_str-pattern.result.now ≡ c.args.self.now = search (rules, c.as_str-pattern.ensures.value, c.deref-2.ensures, c.self.view_is) in
    on_ok-map c.find_known.result _ _
    (λ w. try-searched c.args.self.now c.as_str-pattern.result.now c.in-Some.program.now (length c.args.text.now) (c.try_steps.result + c.look_steps.result) c.args.meter.now.made c.spend-2.new.self.made c.find_known.new.meter.made
    is same easy (omega (arith, c.spend.ensures.most, c.spend-2.ensures.most)) (omega (arith, c.try_steps.ensures.bound, c.look_steps.ensures)) w)
    c.find_known.ensures.steps

-- what is known stays true of the pattern's text, as which the search is given it
pub returns-clause-known : goal.returns-clause-known
returns-clause-known c =
    let is : IsCompiled c.args.self.now c.in-Some.program.now = subst (λ o. Compiles c.args.self.now (option_copied o)) c.in-Some.is c.in_ok-program.ensures in
    let same : c.as_str-pattern.result.now ≡ c.args.self.now = search (rules, c.as_str-pattern.ensures.value, c.deref-2.ensures, c.self.view_is) in
    let left : IsProspectOf c.args.self.now c.args.text.now c.is_left-is_left.new.self = c.is_left-is_left.ensures.known c.args.self.now is c.requires.known in
    subst (λ (p : List ℕ). IsProspectOf p c.args.text.now c.find_known.new.known) same
    (c.find_known.ensures.known (subst (λ (p : List ℕ). IsProspectOf p c.args.text.now c.is_left-is_left.new.self) (sym same) left))
