use Rattle.std.proofs.Common.{List, ap, sym, ◌∙◌, subst, arith}
use Rattle.std.proofs.Math.Logic.{∥∥₁_map}
use Rattle.syntect_pattern_table.specs.Program.{trees_of}
use Rattle.syntect_pattern_table.specs.Jumps.{AreJumps}
use Rattle.syntect_pattern_table.specs.Starts.{is_in}
use Rattle.syntect_pattern_table.specs.declared.jumps.Jump.{Jump}
use Rattle.syntect_pattern_table.specs.declared.starts.Places.{Places}
use Rattle.syntect_pattern_table.proofs.JumpLaws.{jump-leads}
use Rattle.syntect_pattern_table.proofs.program.Program.past_branches.Goals as goal

pub returns : goal.returns
returns c =
    ∥∥₁_map c.args.self.now.jumping (λ (known : AreJumps c.args.self.now.jumps_from c.args.self.now.jumps (trees_of c.args.self.now)).
    jump-leads c.args.text.now c.utf8.text c.args.place c.requires (trees_of c.args.self.now) c.args.node c.in-Some.jump
    (c.in-Some.ensures (trees_of c.args.self.now) (subst (λ (js : List Jump). AreJumps c.args.self.now.jumps_from js (trees_of c.args.self.now)) (sym c.as_slice.ensures) known))
    (omega arith) c.start_at.result c.start_at.ensures.value c.start_at.ensures.bound (sym (ap (λ (p : Places). is_in p c.start_at.result) c.places.ensures) ∙ sym c.is_in.ensures ∙ c.if-is_in.false))
