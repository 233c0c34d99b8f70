use Rattle.std.proofs.Common.{ℕ, ap, sym, ◌∙◌, eq-eqb, ne_eqb}
use Rattle.syntect_pattern_backtrack.specs.syntect_pattern_table.Program.{trees_of}
use Rattle.syntect_pattern_backtrack.specs.declared.state.Next.{Next}
use Rattle.syntect_pattern_backtrack.specs.Machine.{On, list_at, on_item, after_turn, turns_of, tree_at, work_if, tick}
use Rattle.syntect_pattern_backtrack.proofs.MachineLaws.{list_at-nil}
use Rattle.syntect_pattern_backtrack.proofs.StepLaws.{goes_on}
use Rattle.syntect_pattern_backtrack.proofs.BackLaws.{goes_item, goes_close}
use Rattle.syntect_pattern_backtrack.proofs.state.Search.leave.Goals as goal

pub returns-then-list-eq0 : goal.returns-then-list-eq0
returns-then-list-eq0 c =
    let s = c.args.text.now in
    let ts = trees_of c.args.program.now in
    let x = c.args.self.now in
    goes_on s ts (Next.Leave c.args.list) Next.Found x 0 c.requires
    (ap (λ (k : ℕ). list_at s ts x.cells.items k x.place x.groups.items) c.if-list-eq0.true
    ∙ ap (λ (k : On). k x.place x.groups.items) (list_at-nil s ts x.cells.items))
    tt

pub returns-in-Run : goal.returns-in-Run
returns-in-Run c =
    let s = c.args.text.now in
    let ts = trees_of c.args.program.now in
    let x = c.args.self.now in
    let cell = c.index-cell.result.now in
    goes_item s ts x (Next.Enter c.in-Run.node cell.next) cell c.args.list 0
    c.if-list-eq0.false c.requires (sym c.index-cell.ensures)
    (ap (λ it. on_item s ts it (list_at s ts x.cells.items cell.next) x.place x.groups.items) c.in-Run.is) (λ h. h)

pub returns-in_ok-close-in-Close : goal.returns-in_ok-close-in-Close
returns-in_ok-close-in-Close c =
    goes_close c.args.text.now (trees_of c.args.program.now) c.args.self.now c.close.new.self c.index-cell.result.now c.args.list c.in-Close.group c.in-Close.start
    c.if-list-eq0.false c.requires (sym c.index-cell.ensures) c.in-Close.is
    c.in_ok-close-in-Close.ensures.inside c.in_ok-close-in-Close.ensures.outside c.in_ok-close-in-Close.ensures.groups
    c.in_ok-close-in-Close.ensures.cells c.in_ok-close-in-Close.ensures.place

pub returns-then-self-start : goal.returns-then-self-start
returns-then-self-start c =
    let s = c.args.text.now in
    let ts = trees_of c.args.program.now in
    let x = c.args.self.now in
    let cell = c.index-cell.result.now in
    let t = c.in-Again.turns in
    goes_item s ts x (Next.Leave cell.next) cell c.args.list 0
    c.if-list-eq0.false c.requires (sym c.index-cell.ensures)
    (ap (λ it. on_item s ts it (list_at s ts x.cells.items cell.next) x.place x.groups.items) c.in-Again.is
    ∙ ap (λ b. tick (after_turn b (list_at s ts x.cells.items cell.next) (turns_of s ts (tree_at s ts t.node) t (list_at s ts x.cells.items cell.next)) x.place x.groups.items))
    (eq-eqb x.place c.in-Again.start c.if-self-start.true))
    (λ h. h)

pub returns-else-self-start : goal.returns-else-self-start
returns-else-self-start c =
    let s = c.args.text.now in
    let ts = trees_of c.args.program.now in
    let x = c.args.self.now in
    let cell = c.index-cell.result.now in
    let t = c.in-Again.turns in
    goes_item s ts x (Next.Turn t cell.next) cell c.args.list 0
    c.if-list-eq0.false c.requires (sym c.index-cell.ensures)
    (ap (λ it. on_item s ts it (list_at s ts x.cells.items cell.next) x.place x.groups.items) c.in-Again.is
    ∙ ap (λ b. tick (after_turn b (list_at s ts x.cells.items cell.next) (turns_of s ts (tree_at s ts t.node) t (list_at s ts x.cells.items cell.next)) x.place x.groups.items))
    (ne_eqb x.place c.in-Again.start c.if-self-start.false))
    (λ h. h)

pub returns-then-self-end : goal.returns-then-self-end
returns-then-self-end c =
    let s = c.args.text.now in
    let ts = trees_of c.args.program.now in
    let x = c.args.self.now in
    let cell = c.index-cell.result.now in
    goes_item s ts x (Next.Leave cell.next) cell c.args.list 0
    c.if-list-eq0.false c.requires (sym c.index-cell.ensures)
    (ap (λ it. on_item s ts it (list_at s ts x.cells.items cell.next) x.place x.groups.items) c.in-EndsAt.is
    ∙ ap (λ b. tick (work_if b (list_at s ts x.cells.items cell.next x.place x.groups.items))) (eq-eqb x.place c.in-EndsAt.end c.if-self-end.true))
    (λ h. h)

pub returns-else-self-end : goal.returns-else-self-end
returns-else-self-end c =
    let s = c.args.text.now in
    let ts = trees_of c.args.program.now in
    let x = c.args.self.now in
    let cell = c.index-cell.result.now in
    goes_item s ts x Next.Fail cell c.args.list 0
    c.if-list-eq0.false c.requires (sym c.index-cell.ensures)
    (ap (λ it. on_item s ts it (list_at s ts x.cells.items cell.next) x.place x.groups.items) c.in-EndsAt.is
    ∙ ap (λ b. tick (work_if b (list_at s ts x.cells.items cell.next x.place x.groups.items))) (ne_eqb x.place c.in-EndsAt.end c.if-self-end.false))
    (λ h. tt)
