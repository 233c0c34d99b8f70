use Rattle.std.proofs.Common.{◌≡◌, ℕ, List, Option, Some, Bor, IfSome, option_map, subst, rules}
use Rattle.syntect_shelf.proofs.HeadLaws.{front_head, whole_head}
use Rattle.syntect_shelf.specs.Heads.{IsFront}
use Rattle.syntect_yaml.specs.View.{view}
use Rattle.syntect_yaml.specs.Yaml.{yaml_of}
use Rattle.syntect_yaml.specs.declared.value.Yaml.{Yaml}
use Rattle.syntect_shelf.proofs.head.head_of_bytes.Goals as goal

pub returns-in-Some-clause-ok : goal.returns-in-Some-clause-ok
returns-in-Some-clause-ok c =
    let front = subst (λ (o : Option Yaml). IfSome o (λ v. (front : List ℕ) × IsFront c.args.bytes.now front × (yaml_of front ≡ Some (Some (view v))))) c.in-Some.is c.in_ok-value.ensures in
    front_head c.args.bytes.now (option_map (λ (t : Bor (List ℕ)). t.now) c.args.fallback) c.head_of_value.new.repository (view c.in-Some.value) c.in_ok-head.head front c.in_ok-head.ensures.ok

pub returns-clause-ok : goal.returns-clause-ok
returns-clause-ok c = whole_head c.args.bytes.now c.in-Ok.text.now (option_map (λ (t : Bor (List ℕ)). t.now) c.args.fallback) c.head_of_text.new.repository c.in_ok-head-2.head (search rules) (search rules) c.in_ok-head-2.ensures.ok
