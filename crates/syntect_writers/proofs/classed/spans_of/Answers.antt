use Rattle.std.proofs.Common.{arith, ◌≡◌, [], None, refl, drop, string_bytes}
use Rattle.std.proofs.lemmas.List.{drop_all}
use Rattle.std.proofs.lemmas.Str.{IsCharBoundary-start}
use Rattle.syntect_writers.specs.Marks.{marks}
use Rattle.syntect_writers.specs.Writing.{Puts}
use Rattle.syntect_writers.proofs.PutLaws.{put_whole}
use Rattle.syntect_writers.proofs.classed.spans_of.Goals as goal

pub loop-place-init : goal.loop-place-init
loop-place-init c = record {
  start = IsCharBoundary-start c.args.line.now c.utf8.line;
  order = c.requires;
  put = λ after whole. whole;
  stack = refl;
  refused = refl;
}

pub returns-clause-text : goal.returns-clause-text
returns-clause-text c =
    let prefix = c.args.prefix.now in
    let repo = c.args.repository.now in
    let none : drop c.loop-place.place-index c.args.ops.now ≡ [] = drop_all c.loop-place.place-index c.args.ops.now (omega (arith, c.loop-place-test.false)) in
    let last : Puts prefix repo c.loop-place.spans (marks c.args.line.now c.loop-place.from c.loop-place.stack (drop c.loop-place.place-index c.args.ops.now)) c.show_between-2.new.self =
    rw none c.in_ok-show_between-2.ensures in
    put_whole prefix repo (record { text = c.new.result; waiting = None }) c.show_between-2.new.self (marks c.args.line.now 0 c.args.stack.now c.args.ops.now) (string_bytes c.settle.new.self.text)
    c.new.ensures.bytes refl (c.loop-place.invariant.put c.show_between-2.new.self last) c.in_ok-settle.ensures.text
