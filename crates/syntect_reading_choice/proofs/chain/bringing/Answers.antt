use Rattle.std.proofs.Common.{ap, drop, ◌∙◌}
use Rattle.std.specs.List.{flat_map}
use Rattle.syntect_reading_choice.specs.Parts.{level_parts}
use Rattle.syntect_reading_choice.specs.declared.level.Level.{Level}
use Rattle.syntect_reading_choice.proofs.BareLaws.{no_parts, no_prototypes}
use Rattle.syntect_reading_choice.proofs.chain.bringing.Goals as goal

pub returns-clause-prototypes : goal.returns-clause-prototypes
returns-clause-prototypes c =
    ap (flat_map (λ (l : Level). l.prototypes)) (c.levels_from.ensures ∙ ap (drop c.max-height.result) c.as_slice.ensures)
    ∙ no_prototypes c.last_cut.result c.bare.result c.max-height.result c.args.p.now.levels c.max-height.ensures c.bare.ensures
    ∙ ap (λ h. flat_map (λ (l : Level). l.prototypes) (drop h c.args.p.now.levels)) c.last_cut.ensures

pub returns-clause-parts : goal.returns-clause-parts
returns-clause-parts c =
    ap (flat_map level_parts) (c.levels_from.ensures ∙ ap (drop c.max-height.result) c.as_slice.ensures)
    ∙ no_parts c.last_cut.result c.bare.result c.max-height.result c.args.p.now.levels c.max-height.ensures c.bare.ensures
    ∙ ap (λ h. flat_map level_parts (drop h c.args.p.now.levels)) c.last_cut.ensures
