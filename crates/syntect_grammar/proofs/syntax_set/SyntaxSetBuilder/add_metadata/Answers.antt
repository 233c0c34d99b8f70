use Rattle.std.proofs.Common.{◌≢◌, ℕ, List, subst, rules}
use Rattle.syntect_grammar.specs.syntect_base.declared.loading.LoadingError.TheVariants.{Memory}
use Rattle.syntect_grammar.specs.Folders.{passed_over}
use Rattle.syntect_grammar.proofs.FolderLaws.{one_entry}
use Rattle.syntect_grammar.specs.syntect_base.Trees.{has_bytes}
use Rattle.syntect_metadata.specs.Entries.{IsEntryOf, IsEntryFault}
use Rattle.syntect_grammar.proofs.syntax_set.SyntaxSetBuilder.add_metadata.Goals as goal

pub returns-in-Ok-add_entry-clause-ok : goal.returns-in-Ok-add_entry-clause-ok
returns-in-Ok-add_entry-clause-ok g c =
    let Told = g.T.Tree.told c.args.tree.now in
    one_entry Told c.args.path.now c.in-Ok.ensures.ok.0 c.args.self.now c.add_entry.new.self c.in-Ok.entry
    (subst (λ (p : List ℕ). Told (has_bytes p c.in-Ok.ensures.ok.0)) c.new.ensures c.in-Ok.ensures.ok.1)
    (subst (λ (p : List ℕ). IsEntryOf p c.in-Ok.ensures.ok.0 c.in-Ok.entry) c.new.ensures c.in-Ok.ensures.ok.2)
    c.in-Ok-add_entry.ensures.ok c.add_entry.ensures.definitions c.add_entry.ensures.paths c.add_entry.ensures.metadata

pub returns-in-Err : goal.returns-in-Err
returns-in-Err g c =
    let other : c.in-Err._fault ≢ Memory = search rules in
    let Told = g.T.Tree.told c.args.tree.now in
    record { ok = passed_over (subst (λ (p : List ℕ). IsEntryFault Told p c.in-Err._fault) c.new.ensures c.in-Err.ensures.err) other; err = tt; memory = tt }
