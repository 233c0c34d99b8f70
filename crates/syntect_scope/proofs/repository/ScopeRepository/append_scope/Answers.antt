use Rattle.std.proofs.Common.{◌≡◌, ℕ, ◌<◌, List, [], ◌∷◌, ◌++◌, length, arith, ap, sym, ◌∙◌, append_assoc, get_or, lit<, take}
use Rattle.std.specs.Prelude.{string_bytes}
use Rattle.std.proofs.lemmas.Str.Ascii.{encode_ascii}
use Rattle.syntect_scope.specs.Repository.{atom_text, scope_text}
use Rattle.syntect_scope.proofs.RepositoryLaws.{text_last, text_first}
use Rattle.syntect_scope.proofs.repository.ScopeRepository.append_scope.Goals as goal
use Rattle.syntect_scope.proofs.repository.ScopeRepository.append_scope.Goals.{then-i-gt0+in_ok-push, else-i-gt0}

pub loop-i-preserved : goal.loop-i-preserved
loop-i-preserved c =
    let atoms : List ℕ = c.args.scope in
    let before : List ℕ = string_bytes c.args.text.now in
    let front : List ℕ = scope_text c.args.self.now (take c.loop-i.i atoms) in
    let word : List ℕ = atom_text c.args.self.now (get_or atoms c.loop-i.i 0) in
    let written : string_bytes c.push_str.new.self ≡ string_bytes c.if-i-gt0.text ++ word = c.in_ok-push_str.ensures.bytes ∙ ap (λ (l : List ℕ). string_bytes c.if-i-gt0.text ++ l) (c.atom_or_mark.ensures ∙ ap (atom_text c.args.self.now) c.atom_at.ensures) in
    let within : c.loop-i.i < length atoms = omega (arith, c.loop-i-test.true, c.len-i-end.ensures.atoms) in
    elim c.if-i-gt0.branch [
      | then-i-gt0+in_ok-push w ↦
          let dotted : string_bytes c.if-i-gt0.text ≡ before ++ front ++ 46 ∷ [] =
          ap string_bytes w.text-is ∙ w.in_ok-push.ensures.bytes ∙ ap (λ (l : List ℕ). string_bytes c.loop-i.text ++ l) (encode_ascii 46 (lit< tt)) ∙ ap (λ (l : List ℕ). l ++ 46 ∷ []) c.loop-i.invariant in
          written ∙ ap (λ (l : List ℕ). l ++ word) dotted ∙ append_assoc (before ++ front) (46 ∷ []) word ∙ append_assoc before front (46 ∷ word)
          ∙ ap (λ (l : List ℕ). before ++ l) (sym (text_last c.args.self.now atoms c.loop-i.i 0 within w.if-i-gt0.true))
      | else-i-gt0 w ↦
          written ∙ ap (λ (l : List ℕ). l ++ word) (ap string_bytes w.text-is ∙ c.loop-i.invariant) ∙ append_assoc before front word
          ∙ ap (λ (l : List ℕ). before ++ l) (sym (text_first c.args.self.now atoms c.loop-i.i 0 within w.if-i-gt0.false))
    ]
