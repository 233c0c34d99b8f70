use Rattle.std.proofs.Common.{string_bytes}
use Rattle.std.specs.Result.{is_ok}
use Rattle.std.proofs.lemmas.Str.{IsUtf8-string_bytes}
use Rattle.syntect_writers.proofs.TailLaws.{boundary_put}
use Rattle.syntect_writers.proofs.tail.Tail.push_str.Goals as goal

pub invariant_of-self : goal.invariant_of-self
invariant_of-self c =
    boundary_put (is_ok c.push_str.result) c.self.inside.start (string_bytes c.self.inside.text) (string_bytes c.push_str.new.self) c.args.part.now (IsUtf8-string_bytes c.self.inside.text) (IsUtf8-string_bytes c.push_str.new.self)
    c.push_str.ensures.bytes c.self.invariant
