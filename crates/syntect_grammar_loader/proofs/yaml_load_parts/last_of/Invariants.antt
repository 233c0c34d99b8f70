use Rattle.std.proofs.Common.{◌≡◌, [], drop, map}
use denote.Text.{Utf8}
use denote.Shadow.{shadow}
use Rattle.syntect_grammar_loader.specs.LoadingValues.{last_of}
use Rattle.syntect_grammar_loader.proofs.yaml_load_parts.last_of.Given as goal

abbrev pub invariant-loop-part : goal.invariant-loop-part
invariant-loop-part l = shadow (Utf8 l.last) × (last_of l.last (map (λ x. x.now) (drop l.part-index l.parts)) ≡ last_of [] (map (λ x. x.now) l.parts))
