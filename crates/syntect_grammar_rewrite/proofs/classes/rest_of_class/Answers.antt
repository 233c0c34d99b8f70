use Rattle.std.proofs.Common.{◌<◌, length, sym, ◌∙◌, rules, arith}
use Rattle.std.proofs.lemmas.Grind.{common_steps}
use Rattle.syntect_grammar_rewrite.proofs.TokenLaws.{IsSign, read-start, read-closed, read-on, read-over}
use Rattle.syntect_grammar_rewrite.proofs.classes.rest_of_class.Goals as goal

pub signs-init : goal.signs-init
signs-init c = (c.utf8.text, read-start c.args.text.now)

pub signs-preserved : goal.signs-preserved
signs-preserved c =
    let l = c.signs in
    let some : 0 < length l.rest.now = grind (arith, common_steps) in
    let sign : IsSign l.rest.now c.split_at.result.0.now c.sign_len.result = record { some = some; len = c.sign_len.ensures.len; bytes = c.split_at.ensures.front } in (
      search rules,
      read-on c.args.text.now l.depth l.len l.takes_newline l.rest.now c.split_at.result.0.now c.split_at.result.1.now c.sign_len.result c.open_after-depth.result c.finds_newline-takes_newline.result
          l.invariant.1 sign c.split_at.ensures.back c.split_at.ensures.back_len (sym c.closes.ensures ∙ c.if-closes.false) c.finds_newline-takes_newline.ensures c.open_after-depth.ensures.value c.open_after-depth.ensures.within,
    )

pub returns-then-closes-clause-len : goal.returns-then-closes-clause-len
returns-then-closes-clause-len c =
    let l = c.signs in
    let some : 0 < length l.rest.now = grind (arith, common_steps) in
    let sign : IsSign l.rest.now c.split_at.result.0.now c.sign_len.result = record { some = some; len = c.sign_len.ensures.len; bytes = c.split_at.ensures.front } in
    (read-closed c.args.text.now l.depth l.len l.takes_newline l.rest.now c.split_at.result.0.now c.sign_len.result c.finds_newline-takes_newline.result l.invariant.1 sign (sym c.closes.ensures ∙ c.if-closes.true) c.finds_newline-takes_newline.ensures).len

pub returns-then-closes-clause-newline : goal.returns-then-closes-clause-newline
returns-then-closes-clause-newline c =
    let l = c.signs in
    let some : 0 < length l.rest.now = grind (arith, common_steps) in
    let sign : IsSign l.rest.now c.split_at.result.0.now c.sign_len.result = record { some = some; len = c.sign_len.ensures.len; bytes = c.split_at.ensures.front } in
    (read-closed c.args.text.now l.depth l.len l.takes_newline l.rest.now c.split_at.result.0.now c.sign_len.result c.finds_newline-takes_newline.result l.invariant.1 sign (sym c.closes.ensures ∙ c.if-closes.true) c.finds_newline-takes_newline.ensures).newline

pub returns-then-closes-clause-boundary : goal.returns-then-closes-clause-boundary
returns-then-closes-clause-boundary c =
    let l = c.signs in
    let some : 0 < length l.rest.now = grind (arith, common_steps) in
    let sign : IsSign l.rest.now c.split_at.result.0.now c.sign_len.result = record { some = some; len = c.sign_len.ensures.len; bytes = c.split_at.ensures.front } in
    (read-closed c.args.text.now l.depth l.len l.takes_newline l.rest.now c.split_at.result.0.now c.sign_len.result c.finds_newline-takes_newline.result l.invariant.1 sign (sym c.closes.ensures ∙ c.if-closes.true) c.finds_newline-takes_newline.ensures).boundary

pub returns-clause-len : goal.returns-clause-len
returns-clause-len c = (read-over c.args.text.now c.signs.depth c.signs.len c.signs.takes_newline c.signs.rest.now c.signs.invariant.1 (grind (arith, common_steps))).len

pub returns-clause-newline : goal.returns-clause-newline
returns-clause-newline c = (read-over c.args.text.now c.signs.depth c.signs.len c.signs.takes_newline c.signs.rest.now c.signs.invariant.1 (grind (arith, common_steps))).newline

pub returns-clause-boundary : goal.returns-clause-boundary
returns-clause-boundary c = (read-over c.args.text.now c.signs.depth c.signs.len c.signs.takes_newline c.signs.rest.now c.signs.invariant.1 (grind (arith, common_steps))).boundary
