use Rattle.std.proofs.Common.{◌≡◌, true, rules, length, arith}
use Rattle.syntect_easy.specs.Rows.{can_go_on}
use Rattle.syntect_easy.proofs.RowLaws.{next_read}
use Rattle.syntect_easy.proofs.reading.next_line.Goals as goal

pub returns-clause-next : goal.returns-clause-next
returns-clause-next g c =
    let long : length c.read_next.new.line.items ≡ c.in_ok-count.count = omega (arith, c.read_next.new.line.ok.0, c.in_ok-count.ensures.count, c.clear.ensures.len) in
    let more : can_go_on c.args.line.now.items ≡ true = search rules in
    next_read (g.L.ReadLines.ahead c.args.lines.now) (g.L.ReadLines.ahead c.read_next.new.self) c.args.line.now.items c.clear.new.self.items c.read_next.new.line.items c.in_ok-count.count
    more c.clear.ensures.items long c.in_ok-count.ensures.stops c.in_ok-count.ensures.bytes c.in_ok-count.ensures.rest
