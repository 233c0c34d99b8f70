use Rattle.std.proofs.Common.{◌≡◌, ◌+◌, ◌-◌, ℕ, List, [], subst, arith, rules}
use Rattle.syntect_base.specs.declared.tree.Kind.{Kind}
use Rattle.syntect_base.proofs.WalkLaws.{Visited, gives_file, passes_more, no_more, refuses, gives_none}
use Rattle.syntect_base.proofs.utils.go_on.Goals as goal

pub returns-then-left-eq0-clause-err : goal.returns-then-left-eq0-clause-err
returns-then-left-eq0-clause-err g c =
    let none : c.entries.left ≡ 0 = omega arith in
    no_more (g.T.Tree.told c.args.tree.now) c.args.sought c.args.ahead.now c.args.left.now c.entries.ahead c.pop.new.self c.in-Some.path c.entries.left c.in-Some.ensures.items c.entries.invariant.passes none

pub returns-in-Err-clause-err : goal.returns-in-Err-clause-err
returns-in-Err-clause-err g c =
    refuses (g.T.Tree.told c.args.tree.now) c.args.sought c.args.ahead.now c.args.left.now c.entries.ahead c.pop.new.self c.in-Some.path c.entries.left c.in-Some.ensures.items c.entries.invariant.passes
    c.as_str.result.now c.as_str.ensures c.in-Err.e c.in-Err.ensures.err c.in-Err.ensures.breaks

pub returns-then-is_file-clause-found : goal.returns-then-is_file-clause-found
returns-then-is_file-clause-found g c =
    let Told = g.T.Tree.told c.args.tree.now in
    let fewer : (c.entries.left - 1) + 1 ≡ c.entries.left = omega arith in
    let visited : Visited Told c.args.sought c.pop.new.self c.visit.new.ahead c.in-Some.path c.in-Ok.kind
    = subst (λ (p : List ℕ). Visited Told c.args.sought c.pop.new.self c.visit.new.ahead p c.in-Ok.kind) c.as_str.ensures c.in-Ok.ensures.ok in
    gives_file Told c.args.sought c.args.ahead.now c.args.left.now c.entries.ahead c.pop.new.self c.in-Some.path c.entries.left c.in-Some.ensures.items c.entries.invariant.passes
    c.visit.new.ahead (c.entries.left - 1) fewer (subst (λ (k : Kind). Visited Told c.args.sought c.pop.new.self c.visit.new.ahead c.in-Some.path k) (c.is_file.ensures.file c.if-is_file.true) visited)

pub entries-preserved : goal.entries-preserved
entries-preserved g c =
    let Told = g.T.Tree.told c.args.tree.now in
    let fewer : (c.entries.left - 1) + 1 ≡ c.entries.left = omega arith in
    let visited : Visited Told c.args.sought c.pop.new.self c.visit.new.ahead c.in-Some.path c.in-Ok.kind
    = subst (λ (p : List ℕ). Visited Told c.args.sought c.pop.new.self c.visit.new.ahead p c.in-Ok.kind) c.as_str.ensures c.in-Ok.ensures.ok in
    record {
      passes = passes_more Told c.args.sought c.args.ahead.now c.args.left.now c.entries.ahead c.pop.new.self c.in-Some.path c.entries.left c.in-Some.ensures.items c.entries.invariant.passes
          c.visit.new.ahead c.in-Ok.kind (c.entries.left - 1) fewer (c.is_file.ensures.other c.if-is_file.false) visited;
    }

pub returns-clause-none : goal.returns-clause-none
returns-clause-none g c =
    let none : c.entries.ahead ≡ [] = search rules in
    gives_none (g.T.Tree.told c.args.tree.now) c.args.sought c.args.ahead.now c.entries.ahead c.args.left.now c.entries.left none c.entries.invariant.passes
