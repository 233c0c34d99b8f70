use Rattle.std.proofs.Common.{◌≡◌, ℕ, List, [], length, sym, ap, subst, ◌∙◌}
use Rattle.std.specs.Prelude.{IfSome}
use Rattle.std.specs.Io.{StartsWith}
use Rattle.std.specs.Option.{option_copied}
use Rattle.std.specs.Io.Buffered.{reader_remaining}
use Rattle.std.specs.Path.{path_bytes}
use Rattle.syntect_easy.proofs.FileLaws.{asked_known, front_no_text, plain_instead, reached_is_set, told_by_line, told_by_name, told_by_none}
use Rattle.syntect_easy.proofs.NewlineLaws.{front_ahead, front_known}
use Rattle.syntect_easy.proofs.easy.syntax_within.Goals as goal

pub returns-in-Some-clause-found : goal.returns-in-Some-clause-found
returns-in-Some-clause-found g c =
    told_by_name c.args.ss.now (path_bytes c.args.path) (reader_remaining g.T.File.Read.remaining c.args.reader.now) c.in-Some.syntax.now c.in-Some.ensures

pub returns-in-Ok-Some-clause-found : goal.returns-in-Ok-Some-clause-found
returns-in-Ok-Some-clause-found g c =
    let left = reader_remaining g.T.File.Read.remaining c.args.reader.now in
    let bytes = c.buffer.result.now in
    let front : IfSome left (λ xs. StartsWith xs bytes) = subst (λ (bs : List ℕ). IfSome left (λ xs. StartsWith xs bs)) (sym c.buffer.ensures) (front_ahead g.T.File.Read.remaining c.fill.new.reader left c.in-Ok.ensures.keeps) in
    let some : IfSome left (λ xs. length bytes ≡ 0 → xs ≡ []) = subst (λ (bs : List ℕ). IfSome left (λ xs. length bs ≡ 0 → xs ≡ [])) (sym c.buffer.ensures) c.in-Ok.ensures.some in
    let line = c.in-Ok-first_line.line.now in
    let fronts = front_known left bytes line front c.in-Ok-first_line.ensures.asked.front in
    let asked = asked_known left bytes line front some c.in-Ok-first_line.ensures.asked in
    told_by_line c.args.ss.now (path_bytes c.args.path) left c.in-Ok-Some.syntax.now line c.in-Ok-first_line.ensures.line fronts asked
    (sym (ap option_copied c.in_default.is) ∙ c.find_syntax_by_file_name.ensures)
    (sym (ap option_copied c.in-Ok-Some.field-0-is) ∙ c.in-Ok-Some.ensures.found)

pub returns-in-Ok-plain_text-clause-found : goal.returns-in-Ok-plain_text-clause-found
returns-in-Ok-plain_text-clause-found g c =
    let left = reader_remaining g.T.File.Read.remaining c.args.reader.now in
    let bytes = c.buffer.result.now in
    let front : IfSome left (λ xs. StartsWith xs bytes) = subst (λ (bs : List ℕ). IfSome left (λ xs. StartsWith xs bs)) (sym c.buffer.ensures) (front_ahead g.T.File.Read.remaining c.fill.new.reader left c.in-Ok.ensures.keeps) in
    let some : IfSome left (λ xs. length bytes ≡ 0 → xs ≡ []) = subst (λ (bs : List ℕ). IfSome left (λ xs. length bs ≡ 0 → xs ≡ [])) (sym c.buffer.ensures) c.in-Ok.ensures.some in
    let line = c.in-Ok-first_line.line.now in
    let fronts = front_known left bytes line front c.in-Ok-first_line.ensures.asked.front in
    let asked = asked_known left bytes line front some c.in-Ok-first_line.ensures.asked in
    told_by_none c.args.ss.now (path_bytes c.args.path) left c.in-Ok-plain_text.syntax.now line c.in-Ok-first_line.ensures.line fronts asked
    (sym (ap option_copied c.in_default.is) ∙ c.find_syntax_by_file_name.ensures)
    (sym (ap option_copied c.in-Ok-None.field-0-is) ∙ c.in-Ok-None.ensures.found)
    c.in-Ok-plain_text.ensures.found

pub returns-in-Ok-plain_text-2-clause-found : goal.returns-in-Ok-plain_text-2-clause-found
returns-in-Ok-plain_text-2-clause-found g c =
    plain_instead c.args.limits.now c.args.ss.now (path_bytes c.args.path) c.in-Ok-plain_text-2.syntax.now
    (reached_is_set c.args.limits.now _ _ c.in-Err-LimitReached.limit c.in-Err-LimitReached.field-0-is c.in-Err-LimitReached.ensures.reached)
    (sym (ap option_copied c.in_default.is) ∙ c.find_syntax_by_file_name.ensures)
    c.in-Ok-plain_text-2.ensures.found

pub returns-in-Err-first_line-clause-refused : goal.returns-in-Err-first_line-clause-refused
returns-in-Err-first_line-clause-refused g c =
    let left = reader_remaining g.T.File.Read.remaining c.args.reader.now in
    let bytes = c.buffer.result.now in
    let front : IfSome left (λ xs. StartsWith xs bytes) = subst (λ (bs : List ℕ). IfSome left (λ xs. StartsWith xs bs)) (sym c.buffer.ensures) (front_ahead g.T.File.Read.remaining c.fill.new.reader left c.in-Ok.ensures.keeps) in
    let path = path_bytes c.args.path in
    front_no_text (g.T.Tree.told c.args.tree.now) c.args.limits.now c.args.ss.now path left bytes front c.in-Err-first_line.e c.in-Err-first_line.ensures.not_utf8 c.in-Err-first_line.ensures.err
