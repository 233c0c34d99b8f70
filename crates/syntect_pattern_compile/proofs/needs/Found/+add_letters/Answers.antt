use Rattle.syntect_pattern_table.specs.Starts.{is_in}
use Rattle.syntect_pattern_compile.proofs.NeedLaws.{leads-letters}
use Rattle.syntect_pattern_compile.proofs.needs.Found.+add_letters.Goals as goal

pub returns-in-Some : goal.returns-in-Some
returns-in-Some k c = λ tree u leads begins both.
    let pair = c.pair_of_letters in
    c.add_letters.ensures tree u
    (leads-letters c.args.fold c.args.first c.in-Some.second.now c.args.others.now c.in-Some.more.now u tree c.in-Some.ensures.cases.0 leads) begins
    (c.add.ensures tree (leads (is_in pair.result.here) (is_in pair.result.next) (pair.ensures u begins)) both)

pub returns-in_default : goal.returns-in_default
returns-in_default k c = λ tree u leads begins both.
    let pair = c.pair_of_letters in
    c.add.ensures tree (leads (is_in pair.result.here) (is_in pair.result.next) (pair.ensures u begins)) both

pub returns-then-self-le-SELDOM : goal.returns-then-self-le-SELDOM
returns-then-self-le-SELDOM k c = λ tree u leads begins both.
    let pair = c.pair_of_letters in
    c.add.ensures tree (leads (is_in pair.result.here) (is_in pair.result.next) (pair.ensures u begins)) both
