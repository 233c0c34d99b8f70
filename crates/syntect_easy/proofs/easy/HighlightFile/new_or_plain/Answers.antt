use Rattle.std.proofs.Common.{rules, List, ℕ, ◌≡◌, subst, inl}
use Rattle.std.specs.Io.Buffered.{reader_remaining}
use Rattle.std.specs.Path.{path_bytes}
use Rattle.std.specs.Prelude.{Option}
use Rattle.std.specs.declared.io.Error.{Error as IoError}
use Rattle.syntect_easy.specs.syntect_base.Trees.{opened, not_opened}
use Rattle.syntect_easy.specs.Files.{IsFileFault, IsFrontFault, IsToldWithin, file_unopened, file_unread}
use Rattle.syntect_easy.proofs.FileLaws.{told_is_for, one_fault, faults_within}
use Rattle.syntect_easy.proofs.easy.HighlightFile.new_or_plain.Goals as goal

pub returns-in-Ok-new-2-clause-leads : goal.returns-in-Ok-new-2-clause-leads
returns-in-Ok-new-2-clause-leads g c =
    let found = c.in-Ok-syntax_within.found in (
      found.0.now,
      told_is_for c.args.limits.now c.args.ss.now (path_bytes c.args.path) _ found.0.now found.1 c.in-Ok-syntax_within.ensures.found,
      c.in-Ok-new-2.ensures.leads c.args.ss.now,
    )

pub returns-in-Ok-new-2-clause-unread : goal.returns-in-Ok-new-2-clause-unread
returns-in-Ok-new-2-clause-unread g c =
    let Told = g.T.Tree.told c.args.tree.now in
    let found = c.in-Ok-syntax_within.found in
    let left = g.F.Read.remaining c.in-Ok.file in
    let e : reader_remaining g.F.Read.remaining c.in-Ok-new.reader ≡ left = search rules in (
      left,
      found.0.now,
      search rules,
      subst (λ (o : Option (List ℕ)). IsToldWithin c.args.limits.now c.args.ss.now (path_bytes c.args.path) o found.0.now found.1) e c.in-Ok-syntax_within.ensures.found,
      c.in-Ok-new-2.ensures.leads c.args.ss.now,
      subst (λ (p : List ℕ). Told (opened p left)) c.as_str.ensures c.in-Ok.ensures.ok,
    )

pub returns-in-Err-clause-refused : goal.returns-in-Err-clause-refused
returns-in-Err-clause-refused g c =
    let Told = g.T.Tree.told c.args.tree.now in
    let path = path_bytes c.args.path in
    inl (one_fault (IsFileFault Told path) c.args.ss.now path c.in-Err.e c.from.result c.from.ensures (file_unopened (subst (λ (p : List ℕ). Told (not_opened p c.in-Err.e)) c.as_str.ensures c.in-Err.ensures.err)))

pub returns-in-Err-syntax_within-clause-refused : goal.returns-in-Err-syntax_within-clause-refused
returns-in-Err-syntax_within-clause-refused g c =
    let Told = g.T.Tree.told c.args.tree.now in
    let path = path_bytes c.args.path in
    let left = g.F.Read.remaining c.in-Ok.file in
    let told = subst (λ (p : List ℕ). Told (opened p left)) c.as_str.ensures c.in-Ok.ensures.ok in
    let same : reader_remaining g.F.Read.remaining c.in-Ok-new.reader ≡ left = search rules in
    let ahead = reader_remaining g.F.Read.remaining c.in-Ok-new.reader in
    let any : (e : IoError) → IsFrontFault Told path ahead e → IsFileFault Told path e = λ e f. file_unread {left = left} told (subst (λ (o : Option (List ℕ)). IsFrontFault Told path o e) same f) in
    faults_within (IsFrontFault Told path ahead) (IsFileFault Told path) any c.args.limits.now c.args.ss.now path c.in-Err-syntax_within.e c.in-Err-syntax_within.ensures.refused
