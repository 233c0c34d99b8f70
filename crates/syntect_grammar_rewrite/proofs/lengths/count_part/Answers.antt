use Rattle.std.proofs.Common.{◌≡◌, ◌<◌, ◌+◌, [], ◌∷◌, length, false, sym, ap, ◌∙◌, arith}
use Rattle.std.proofs.lemmas.Grind.{common_steps}
use Rattle.syntect_grammar_rewrite.specs.Variables.{is_use}
use Rattle.syntect_grammar_rewrite.specs.Expanding.{BeginsWithUse}
use Rattle.syntect_grammar_rewrite.specs.Lengths.{use_mark}
use Rattle.syntect_grammar_rewrite.proofs.LengthLaws.{use_len, written-counted, use-passed, closed-counted, closed-falls}
use Rattle.syntect_grammar_rewrite.proofs.TurnLaws.{char-turn, char-falls, written_falls, is-use, last-taken}
use Rattle.syntect_grammar_rewrite.proofs.lengths.count_part.Goals as goal

pub returns-in-Some-clause-kept : goal.returns-in-Some-clause-kept
returns-in-Some-clause-kept c =
    let none : length c.args.text.now ≡ 0 = grind (arith, common_steps) in
    ap (λ n. c.args.count.now + n) (sym (closed-counted c.args.variables.now c.args.frames.now.items c.leave.new.frames.items c.in-Some.frame c.args.text.now (last-taken c.args.frames.now.items c.leave.new.frames.items c.in_ok-frame.field-0 c.in-Some.frame c.in-Some.is c.in_ok-frame.ensures.taken) none))

pub returns-in-Some-clause-falls : goal.returns-in-Some-clause-falls
returns-in-Some-clause-falls c =
    let none : length c.args.text.now ≡ 0 = grind (arith, common_steps) in
    closed-falls c.args.variables.now c.args.frames.now.items c.leave.new.frames.items c.in-Some.frame c.args.text.now (last-taken c.args.frames.now.items c.leave.new.frames.items c.in_ok-frame.field-0 c.in-Some.frame c.in-Some.is c.in_ok-frame.ensures.taken) none

pub returns-in_default-added-clause-passed : goal.returns-in_default-added-clause-passed
returns-in_default-added-clause-passed c e =
    let some : 0 < length c.args.text.now = grind (arith, common_steps) in
    use-passed c.args.variables.now c.args.frames.now.items c.args.text.now c.in-Some-used.name.now c.in-Some-used.after.now c.args.count.now c.args.most
    (is-use c.args.text.now c.in-Some-used.name.now c.in-Some-used.after.now some c.in-Some-used.ensures.cases c.in-Some-used.ensures.name c.in-Some-used.ensures.rest) c.in_default-added.ensures.sum

pub returns-in-Some-used-clause-kept : goal.returns-in-Some-used-clause-kept
returns-in-Some-used-clause-kept c =
    let t = c.args.text.now in
    let some : 0 < length t = grind (arith, common_steps) in
    let is : BeginsWithUse c.in_ok-name.name c.in-Some-used.after.now t = is-use t c.in_ok-name.name c.in-Some-used.after.now some c.in-Some-used.ensures.cases (c.in_ok-name.ensures ∙ c.in-Some-used.ensures.name) c.in-Some-used.ensures.rest in
    omega (arith, c.in-Some-added.ensures.sum, written-counted c.args.variables.now c.args.frames.now.items c.go_into.new.frames.items t c.in_ok-next.next.now use_mark (c.in_ok-next.ensures.kept t is use_mark), use_len)

pub returns-in-Some-used-clause-falls : goal.returns-in-Some-used-clause-falls
returns-in-Some-used-clause-falls c =
    let t = c.args.text.now in
    let some : 0 < length t = grind (arith, common_steps) in
    let is : BeginsWithUse c.in_ok-name.name c.in-Some-used.after.now t = is-use t c.in_ok-name.name c.in-Some-used.after.now some c.in-Some-used.ensures.cases (c.in_ok-name.ensures ∙ c.in-Some-used.ensures.name) c.in-Some-used.ensures.rest in
    written_falls c.args.variables.now c.args.frames.now.items c.go_into.new.frames.items t c.in_ok-next.next.now (0 ∷ []) (c.in_ok-next.ensures.kept t is (0 ∷ [])) (omega arith) c.in_ok-next.ensures.deeper

pub returns-in_default-added-2-clause-passed : goal.returns-in_default-added-2-clause-passed
returns-in_default-added-2-clause-passed c e =
    let t = c.args.text.now in
    let fs = c.args.frames.now.items in
    let some : 0 < length t = grind (arith, common_steps) in
    let not_use : is_use t ≡ false = grind (arith, common_steps) in
    let turn = char-turn c.args.variables.now fs t c.split_at.result.0.now c.split_at.result.1.now use_mark c.char_len.result some not_use c.char_len.ensures.len c.split_at.ensures.front c.split_at.ensures.back in
    omega (arith, written-counted c.args.variables.now fs fs t c.split_at.result.1.now c.split_at.result.0.now turn, c.in_default-added-2.ensures.sum)

pub returns-clause-kept : goal.returns-clause-kept
returns-clause-kept c =
    let t = c.args.text.now in
    let fs = c.args.frames.now.items in
    let some : 0 < length t = grind (arith, common_steps) in
    let not_use : is_use t ≡ false = grind (arith, common_steps) in
    let turn = char-turn c.args.variables.now fs t c.split_at.result.0.now c.split_at.result.1.now use_mark c.char_len.result some not_use c.char_len.ensures.len c.split_at.ensures.front c.split_at.ensures.back in
    omega (arith, written-counted c.args.variables.now fs fs t c.split_at.result.1.now c.split_at.result.0.now turn, c.in-Some-added-2.ensures.sum)

pub returns-clause-falls : goal.returns-clause-falls
returns-clause-falls c =
    let t = c.args.text.now in
    let some : 0 < length t = grind (arith, common_steps) in
    let not_use : is_use t ≡ false = grind (arith, common_steps) in
    let long : 0 < length c.split_at.result.0.now = omega (arith, c.char_len.ensures.some some, c.split_at.ensures.front_len) in
    let turn = char-turn c.args.variables.now c.args.frames.now.items t c.split_at.result.0.now c.split_at.result.1.now (0 ∷ []) c.char_len.result some not_use c.char_len.ensures.len c.split_at.ensures.front c.split_at.ensures.back in
    char-falls c.args.variables.now c.args.frames.now.items t c.split_at.result.0.now c.split_at.result.1.now turn long
