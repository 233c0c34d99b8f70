use Rattle.std.proofs.Common.{string_bytes, encode_utf8}
use Rattle.std.specs.Result.{is_ok}
use Rattle.std.proofs.lemmas.Str.{IsUtf8-string_bytes}
use Rattle.syntect_writers.proofs.TailLaws.{boundary_put}
use Rattle.syntect_writers.proofs.tail.Tail.push.Goals as goal

pub invariant_of-self : goal.invariant_of-self
invariant_of-self c =
    boundary_put (is_ok c.push.result) c.self.inside.start (string_bytes c.self.inside.text) (string_bytes c.push.new.self) (encode_utf8 c.args.c) (IsUtf8-string_bytes c.self.inside.text) (IsUtf8-string_bytes c.push.new.self)
    c.push.ensures.bytes c.self.invariant
