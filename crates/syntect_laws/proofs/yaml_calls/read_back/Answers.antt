use Rattle.syntect_yaml.specs.View.{view}
use Rattle.syntect_yaml.specs.Yaml.{yaml_of}
use Rattle.syntect_laws.proofs.CallLaws.{has_value, answer_is, not_refused}
use Rattle.syntect_laws.proofs.yaml_calls.read_back.Goals as goal

pub returns-clause-ok : goal.returns-clause-ok
returns-clause-ok c v is = answer_is view (yaml_of c.args.text.now) v c.read.result c.read.ensures.ok (has_value c.args.text.now v is)

pub returns-clause-memory : goal.returns-clause-memory
returns-clause-memory c v is e = not_refused _ _ (c.read.ensures.refused e) (has_value c.args.text.now v is)
