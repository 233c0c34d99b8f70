use Rattle.std.proofs.Common.{◌≡◌, true, false, sym, ap, ◌∙◌}
use Rattle.syntect_regex.proofs.HereLaws.{taken_here}
use Rattle.syntect_regex.proofs.region.Region.find_known.Goals as goal

pub returns-then-is_here-clause-found : goal.returns-then-is_here-clause-found
returns-then-is_here-clause-found c =
    taken_here c.args.text.now c.args.program.now c.args.place c.args.self.now c.swap.new.x.items c.in_ok-is_here.is_here c.begins_known.new.search c.in_ok-is_here.ensures.finds
    (λ _. ap (λ v. v.items) c.swap.ensures.x_after) (λ f. absurd (let k : true ≡ false = sym c.if-is_here.true ∙ f in cc))

pub returns-else-is_here-clause-found : goal.returns-else-is_here-clause-found
returns-else-is_here-clause-found c =
    taken_here c.args.text.now c.args.program.now c.args.place c.args.self.now c.self.inside.positions.items c.in_ok-is_here.is_here c.begins_known.new.search c.in_ok-is_here.ensures.finds
    (λ f. absurd (let k : true ≡ false = sym f ∙ c.if-is_here.false in cc)) (λ _. c.self.view_is)
