use Rattle.std.proofs.Common.{◌≡◌, ℕ, List, Option, option_map, Bor, IfSome, ap, ◌∙◌, subst}
use Rattle.std.specs.Path.{path_file_stem}
use Rattle.syntect_grammar_limits.specs.syntect_grammar_loader.declared.definition.SyntaxDefinition.{SyntaxDefinition}
use Rattle.syntect_shelf.specs.Heads.{IsHeadIn}
use Rattle.syntect_shelf.proofs.heads.head_read.Goals as goal

pub returns-in-Some-clause-ok : goal.returns-in-Some-clause-ok
returns-in-Some-clause-ok c =
    let stem : option_map (λ (t : Bor (List ℕ)). t.now) c.file_stem.result ≡ path_file_stem c.args.path.now = c.file_stem.ensures ∙ ap path_file_stem c.new.ensures in
    subst (λ (n : Option (List ℕ)). IsHeadIn c.args.bytes.now n c.head_of_bytes.new.repository c.in-Some.head) stem
    (subst (λ (o : Option SyntaxDefinition). IfSome o (IsHeadIn c.args.bytes.now (option_map (λ (t : Bor (List ℕ)). t.now) c.file_stem.result) c.head_of_bytes.new.repository)) c.in-Some.is c.in-Ok.ensures.ok)
