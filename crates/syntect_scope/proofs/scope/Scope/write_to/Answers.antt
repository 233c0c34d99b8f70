use Rattle.std.proofs.Common.{◌≡◌, List, ℕ, [], ◌∷◌, ◌++◌, ◌<◌, length, arith, ap, sym, ◌∙◌, subst, get_or, take, append_assoc}
use Rattle.std.proofs.KnownBytes.{Appends-trans}
use Rattle.std.specs.Io.KnownBytes.{Appends}
use Rattle.syntect_scope.specs.Repository.{atom_text, scope_text}
use Rattle.syntect_scope.proofs.RepositoryLaws.{text_last, text_first}
use Rattle.syntect_scope.proofs.scope.Scope.write_to.Goals as goal
use Rattle.syntect_scope.proofs.scope.Scope.write_to.Goals.{then-i-gt0+in_ok-write_all, else-i-gt0}

pub loop-i-preserved : goal.loop-i-preserved
loop-i-preserved g c =
    let repo = c.args.repository.now in
    let atoms : List ℕ = c.args.self in
    let front : List ℕ = scope_text repo (take c.loop-i.i atoms) in
    let word : List ℕ = atom_text repo (get_or atoms c.loop-i.i 0) in
    let old = g.W.Write.contents c.args.writer.now in
    let start = g.W.Write.contents c.loop-i.writer in
    let mid = g.W.Write.contents c.if-i-gt0.writer in
    let new = g.W.Write.contents c.write_all-in-loop-i.new.self in
    let within : c.loop-i.i < length atoms = omega (arith, c.loop-i-test.true, c.len-i-end.ensures.atoms) in
    let name : c.as_bytes.result.now ≡ word = c.as_bytes.ensures.value ∙ c.atom_or_mark.ensures ∙ ap (atom_text repo) c.atom_at.ensures in
    let put : Appends mid new word = subst (Appends mid new) name c.in_ok-write_all-2.ensures.bytes in
    elim c.if-i-gt0.branch [
      | then-i-gt0+in_ok-write_all w ↦
          let dot : Appends start mid (46 ∷ []) = subst (λ v. Appends start (g.W.Write.contents v) (46 ∷ [])) (sym w.writer-is) w.in_ok-write_all.ensures.bytes in
          subst (Appends old new) (append_assoc front (46 ∷ []) word ∙ sym (text_last repo atoms c.loop-i.i 0 within w.if-i-gt0.true))
          (Appends-trans old mid new (front ++ 46 ∷ []) word (Appends-trans old start mid front (46 ∷ []) c.loop-i.invariant dot) put)
      | else-i-gt0 w ↦
          let same : Appends old mid front = subst (λ v. Appends old (g.W.Write.contents v) front) (sym w.writer-is) c.loop-i.invariant in
          subst (Appends old new) (sym (text_first repo atoms c.loop-i.i 0 within w.if-i-gt0.false))
          (Appends-trans old mid new front word same put)
    ]
