use Rattle.std.proofs.Common.{List, ℕ, string_bytes, subst}
use Rattle.std.specs.Io.Buffered.{reader_remaining}
use Rattle.std.specs.Path.{path_bytes}
use Rattle.syntect_cat.specs.syntect_base.Trees.{not_read_on}
use Rattle.syntect_cat.specs.syntect_easy.Files.{FaultsAre, IsLineFault}
use Rattle.syntect_cat.specs.syntect_easy.LineErrors.{error_of}
use Rattle.syntect_cat.proofs.syntect_easy_proofs.FileLaws.{built_told}
use Rattle.syntect_cat.proofs.TextLaws.{file_text, not_opened, not_read_to_end}
use Rattle.syntect_cat.proofs.lines.text_of_file.Goals as goal

pub returns-clause-shown : goal.returns-clause-shown
returns-clause-shown g c = λ definitions b.
    let Told = g.T.Tree.told c.args.tree.now in
    let u = c.in-Ok.ensures.unread in
    let path = path_bytes c.args.path in
    let limits = c.default-limits.result in
    let set = c.args.set.now in
    let opened = c.in-Ok.opened in
    let written = c.in-Ok-written.written in
    file_text Told limits set path c.form-form.result c.args.format c.args.theme.now (string_bytes written.0) u.1 opened.1 written.1 c.note_of.result u.0 _ u.5 u.2 c.default-limits.ensures c.form-form.ensures u.3 c.note_of.ensures
    (c.in-Ok-written.ensures.text definitions u.1 (built_told limits set path u.0 u.1 opened.1 definitions b u.3) u.4)

pub returns-in-Err-clause-refused : goal.returns-in-Err-clause-refused
returns-in-Err-clause-refused g c = not_opened (g.T.Tree.told c.args.tree.now) c.default-limits.result c.args.set.now (path_bytes c.args.path) c.in-Err.e c.in-Err.ensures.refused

pub returns-in-Err-written-clause-refused : goal.returns-in-Err-written-clause-refused
returns-in-Err-written-clause-refused g c =
    let u = c.in-Ok.ensures.unread in
    let Told = g.T.Tree.told c.args.tree.now in
    let path = path_bytes c.args.path in
    let seen = reader_remaining g.T.File.Read.remaining c.in-Ok.opened.0.reader in
    let e = error_of c.in-Err-written.e in
    let faults = subst (λ (p : List ℕ). FaultsAre (IsLineFault (λ x. Told (not_read_on p x)) seen) e) c.as_str.ensures c.in-Err-written.ensures.faults in
    not_read_to_end Told c.default-limits.result c.args.set.now path u.0 seen u.2 u.5 c.into_error.result (rw c.into_error.ensures faults)
