use Rattle.std.proofs.Common.{List, ℕ, subst}
use Rattle.std.specs.Io.Buffered.{reader_remaining}
use Rattle.std.specs.Path.{path_bytes}
use Rattle.syntect_assets.specs.syntect_base.Trees.{not_read_on}
use Rattle.syntect_easy.specs.Files.{FaultsAre, IsLineFault}
use Rattle.syntect_easy.specs.LineErrors.{error_of}
use Rattle.syntect_easy.proofs.FileLaws.{built_told, text_kept}
use Rattle.syntect_assets.proofs.AssetsLaws.{file_left_off, file_refused}
use Rattle.syntect_assets.proofs.assets.Assets.show_file.Goals as goal

pub returns-clause-shown : goal.returns-clause-shown
returns-clause-shown g c = λ definitions b.
    let u = c.in-Ok.ensures.unread in
    let path = path_bytes c.args.path in
    let assets = c.args.self.now in
    let t = c.in-Ok-written.ensures.text definitions u.1 (built_told assets.limits assets.set path u.0 u.1 c.in-Ok.opened.1 definitions b u.3) u.4 in
    record { left = u.0; told = u.5; syntax = u.1; syntax_is = u.3; text = t.0; whole = text_kept u.0 _ t.0 u.2 t.1; utf8 = t.2; shows = t.3 }

pub returns-in-Err-clause-refused : goal.returns-in-Err-clause-refused
returns-in-Err-clause-refused g c =
    file_refused (g.T.Tree.told c.args.tree.now) c.args.self.now.limits c.args.self.now.set (path_bytes c.args.path) c.in-Err.e c.in_ok-refused_file-in-Err.field-0 c.in_ok-refused_file-in-Err.ensures c.in-Err.ensures.refused

pub returns-in-Err-written-clause-refused : goal.returns-in-Err-written-clause-refused
returns-in-Err-written-clause-refused g c =
    let u = c.in-Ok.ensures.unread in
    let Told = g.T.Tree.told c.args.tree.now in
    let path = path_bytes c.args.path in
    let seen = reader_remaining g.T.File.Read.remaining c.in-Ok.opened.0.reader in
    let e = error_of c.in-Err-written.e in
    let faults = subst (λ (p : List ℕ). FaultsAre (IsLineFault (λ x. Told (not_read_on p x)) seen) e) c.as_str.ensures c.in-Err-written.ensures.faults in
    file_left_off Told c.args.self.now.limits c.args.self.now.set path u.0 seen u.2 u.5 c.into_error.result c.in_ok-refused_file-in-Err-written.field-0 c.in_ok-refused_file-in-Err-written.ensures
    (rw c.into_error.ensures faults)
