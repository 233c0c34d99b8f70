-- What a reader of a whole page sees.
use Rattle.std.proofs.Common.{◌≡◌, ℕ, zero, suc, ◌-◌, List, [], ◌∷◌, ◌++◌, length, take, map, refl, sym, ap, ◌∙◌, append-nil, append_assoc, arith, replicate, length-take-le}
use Rattle.std.specs.List.{flat_map}
use Rattle.std.proofs.lemmas.Grind.{flat_map-append}
use Rattle.syntect_writers.specs.Classes.{closing_tag}
use Rattle.syntect_writers.specs.Marks.{Mark, marks, written, stack_after}
use Rattle.syntect_writers.specs.Page.{Reader, read, under, shown, bytes_under}
use Rattle.syntect_writers.specs.Laws.{Follows, Line, AreInOrder, page_text, IsSeenPage}
use Rattle.syntect_writers.proofs.SeenLaws.{read_more, read_end, all_seen}
use Rattle.syntect_writers.proofs.FollowLaws.{follows}
use Rattle.syntect_writers.specs.syntect_scope.Replay.{replay, before_text, bytes_to}
use Rattle.syntect_writers.specs.syntect_scope.declared.stack.ScopeStack.{ScopeStack}

map_both : {A B : Type 0} (f : A → B) (xs ys : List A) → map f (xs ++ ys) ≡ map f xs ++ map f ys
map_both f [] ys = refl
map_both f (x ∷ xs) ys = ap (λ l. f x ∷ l) (map_both f xs ys)

none_left : {A : Type 0} (xs : List A) → length xs ≡ 0 → xs ≡ []
none_left [] e = refl
none_left (x ∷ xs) e = absurd (omega (arith, e))

module _ (prefix : List ℕ) (repo : List (List ℕ)) where
  -- as many closing tags as tags are open
  closes : (n : ℕ) (scopes : List (List ℕ)) (seen : List (ℕ × List (List ℕ))) → length scopes ≡ n → read (under prefix repo scopes seen) (flat_map (λ tag. tag) (replicate n closing_tag)) ≡ under prefix repo [] seen
  closes zero scopes seen e = ap (λ (l : List (List ℕ)). under prefix repo l seen) (none_left scopes e)
  closes (suc n) scopes seen e =
      read_more (under prefix repo scopes seen) closing_tag (flat_map (λ tag. tag) (replicate n closing_tag))
      ∙ ap (λ (r : Reader). read r (flat_map (λ tag. tag) (replicate n closing_tag))) (read_end prefix repo scopes seen (omega (arith, e)))
      ∙ closes n (take (length scopes - 1) scopes) seen (length-take-le (length scopes - 1) scopes (omega arith) ∙ omega (arith, e))

  pub page_seen : (stack : ScopeStack) (seen : List (ℕ × List (List ℕ))) (lines : List Line) → AreInOrder lines → IsSeenPage prefix repo stack seen lines
  page_seen stack seen [] h = record {
    bytes = [];
    read_back = closes (length stack.scopes) stack.scopes seen refl ∙ ap (under prefix repo []) (sym (append-nil seen));
    text = refl;
    scopes = refl;
  }
  page_seen stack seen (l ∷ ls) h =
      let ms : List Mark = marks l.0 0 stack l.1 in
      let next : ScopeStack = stack_after stack l.1 in
      let line : Follows l.0 stack l.1 = follows l.0 stack l.1 h.0 in
      let here : List (ℕ × List (List ℕ)) = bytes_under stack.scopes ms in
      let rest : IsSeenPage prefix repo next (seen ++ flat_map (shown prefix repo) here) ls = page_seen next (seen ++ flat_map (shown prefix repo) here) ls h.1 in
      record {
        bytes = here ++ rest.bytes;
        read_back =
            read_more (under prefix repo stack.scopes seen) (written prefix repo ms) (page_text prefix repo next ls)
            ∙ ap (λ (r : Reader). read r (page_text prefix repo next ls))
            (all_seen prefix repo stack.scopes seen ms line.nested ∙ ap (λ (s : List (List ℕ)). under prefix repo s (seen ++ flat_map (shown prefix repo) here)) line.left_open)
            ∙ rest.read_back
            ∙ ap (under prefix repo []) (append_assoc seen (flat_map (shown prefix repo) here) (flat_map (shown prefix repo) rest.bytes)
            ∙ ap (λ (s : List (ℕ × List (List ℕ))). seen ++ s) (sym (flat_map-append (shown prefix repo) here rest.bytes)));
        text = map_both (λ (p : ℕ × List (List ℕ)). p.0) here rest.bytes ∙ ap (λ (t : List ℕ). t ++ map (λ (p : ℕ × List (List ℕ)). p.0) rest.bytes) line.text ∙ ap (λ (t : List ℕ). l.0 ++ t) rest.text;
        scopes = map_both (λ (p : ℕ × List (List ℕ)). p.1) here rest.bytes ∙ ap (λ (t : List (List (List ℕ))). t ++ map (λ (p : ℕ × List (List ℕ)). p.1) rest.bytes) line.scopes ∙ ap (λ (t : List (List (List ℕ))). bytes_to (replay l.1 (before_text stack)) (length l.0) ++ t) rest.scopes;
      }
