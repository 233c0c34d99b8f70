use Rattle.std.proofs.Common.{◌≡◌, ◌++◌, ◌<◌, [], ◌∷◌, List, ℕ, false, length, string_bytes, sym, ap, ◌∙◌, subst, append_assoc, arith}
use Rattle.std.proofs.lemmas.Grind.{common_steps}
use Rattle.syntect_grammar_rewrite.specs.Variables.{is_use}
use Rattle.syntect_grammar_rewrite.specs.Expanding.{left, AreTraced}
use Rattle.syntect_grammar_rewrite.proofs.TurnLaws.{char-turn, char-falls, char-traced, is-use}
use Rattle.syntect_grammar_rewrite.proofs.expand.turn.Goals as goal

pub returns-clause-kept : goal.returns-clause-kept
returns-clause-kept c =
    let t = c.args.text.now in
    let some : 0 < length t = grind (arith, common_steps) in
    let not_use : is_use t ≡ false = grind (arith, common_steps) in
    let e = char-turn c.args.variables.now c.args.frames.now.items t c.split_at.result.0.now c.split_at.result.1.now [] c.char_len.result some not_use c.char_len.ensures.len c.split_at.ensures.front c.split_at.ensures.back in
    ap (λ (x : List ℕ). x ++ left [] c.args.variables.now c.args.frames.now.items c.split_at.result.1.now) c.in_ok-push_str.ensures.bytes
    ∙ append_assoc (string_bytes c.args.out.now) c.split_at.result.0.now (left [] c.args.variables.now c.args.frames.now.items c.split_at.result.1.now)
    ∙ ap (λ (x : List ℕ). string_bytes c.args.out.now ++ x) (sym e)

pub returns-clause-falls : goal.returns-clause-falls
returns-clause-falls c =
    let t = c.args.text.now in
    let some : 0 < length t = grind (arith, common_steps) in
    let not_use : is_use t ≡ false = grind (arith, common_steps) in
    let long : 0 < length c.split_at.result.0.now = omega (arith, c.char_len.ensures.some some, c.split_at.ensures.front_len) in
    let e = char-turn c.args.variables.now c.args.frames.now.items t c.split_at.result.0.now c.split_at.result.1.now (0 ∷ []) c.char_len.result some not_use c.char_len.ensures.len c.split_at.ensures.front c.split_at.ensures.back in
    char-falls c.args.variables.now c.args.frames.now.items t c.split_at.result.0.now c.split_at.result.1.now e long

pub returns-clause-traced : goal.returns-clause-traced
returns-clause-traced c =
    let t = c.args.text.now in
    let some : 0 < length t = grind (arith, common_steps) in
    let long : 0 < length c.split_at.result.0.now = omega (arith, c.char_len.ensures.some some, c.split_at.ensures.front_len) in
    char-traced c.args.variables.now c.args.frames.now.items t c.split_at.result.0.now c.split_at.result.1.now (string_bytes c.args.out.now) (string_bytes c.push_str.new.self) c.in_ok-push_str.ensures.bytes long c.requires.traced

pub returns-in-Some-clause-kept : goal.returns-in-Some-clause-kept
returns-in-Some-clause-kept c =
    let long : length (string_bytes c.args.out.now) ≡ c.len-in-Some.result = omega (arith, c.args.out.now.bytes.ok.0, c.len-in-Some.ensures) in
    let traced : AreTraced c.args.variables.now c.args.frames.now.items c.args.text.now c.len-in-Some.result = subst (AreTraced c.args.variables.now c.args.frames.now.items c.args.text.now) long c.requires.traced in
    let some : 0 < length c.args.text.now = grind (arith, common_steps) in
    let is = is-use c.args.text.now c.in_ok-name.name c.in-Some.after.now some c.in-Some.ensures.cases (c.in_ok-name.ensures ∙ c.in-Some.ensures.name) c.in-Some.ensures.rest in
    let entered = c.in_ok-next-2.ensures.kept c.args.text.now is traced in
    ap (λ (x : List ℕ). string_bytes c.args.out.now ++ x) (sym entered.0)

pub returns-in-Some-clause-falls : goal.returns-in-Some-clause-falls
returns-in-Some-clause-falls c =
    let long : length (string_bytes c.args.out.now) ≡ c.len-in-Some.result = omega (arith, c.args.out.now.bytes.ok.0, c.len-in-Some.ensures) in
    let traced : AreTraced c.args.variables.now c.args.frames.now.items c.args.text.now c.len-in-Some.result = subst (AreTraced c.args.variables.now c.args.frames.now.items c.args.text.now) long c.requires.traced in
    let some : 0 < length c.args.text.now = grind (arith, common_steps) in
    let is = is-use c.args.text.now c.in_ok-name.name c.in-Some.after.now some c.in-Some.ensures.cases (c.in_ok-name.ensures ∙ c.in-Some.ensures.name) c.in-Some.ensures.rest in
    let entered = c.in_ok-next-2.ensures.kept c.args.text.now is traced in
    entered.1

pub returns-in-Some-clause-traced : goal.returns-in-Some-clause-traced
returns-in-Some-clause-traced c =
    let long : length (string_bytes c.args.out.now) ≡ c.len-in-Some.result = omega (arith, c.args.out.now.bytes.ok.0, c.len-in-Some.ensures) in
    let traced : AreTraced c.args.variables.now c.args.frames.now.items c.args.text.now c.len-in-Some.result = subst (AreTraced c.args.variables.now c.args.frames.now.items c.args.text.now) long c.requires.traced in
    let some : 0 < length c.args.text.now = grind (arith, common_steps) in
    let is = is-use c.args.text.now c.in_ok-name.name c.in-Some.after.now some c.in-Some.ensures.cases (c.in_ok-name.ensures ∙ c.in-Some.ensures.name) c.in-Some.ensures.rest in
    let entered = c.in_ok-next-2.ensures.kept c.args.text.now is traced in
    subst (AreTraced c.args.variables.now c.enter.new.frames.items c.in_ok-next-2.next.now) (sym long) entered.2

pub returns-in-Some-clause-vanish : goal.returns-in-Some-clause-vanish
returns-in-Some-clause-vanish c =
    let long : length (string_bytes c.args.out.now) ≡ c.len-in-Some.result = omega (arith, c.args.out.now.bytes.ok.0, c.len-in-Some.ensures) in
    let traced : AreTraced c.args.variables.now c.args.frames.now.items c.args.text.now c.len-in-Some.result = subst (AreTraced c.args.variables.now c.args.frames.now.items c.args.text.now) long c.requires.traced in
    let some : 0 < length c.args.text.now = grind (arith, common_steps) in
    let is = is-use c.args.text.now c.in_ok-name.name c.in-Some.after.now some c.in-Some.ensures.cases (c.in_ok-name.ensures ∙ c.in-Some.ensures.name) c.in-Some.ensures.rest in
    let entered = c.in_ok-next-2.ensures.kept c.args.text.now is traced in
    entered.3
