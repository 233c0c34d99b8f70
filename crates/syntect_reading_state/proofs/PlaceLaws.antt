-- Where a walk is.
use Rattle.std.proofs.Common.{◌≡◌, ℕ, ◌+◌, ◌-◌, List, [], ◌∷◌, ◌++◌, length, refl, ap, sym, ◌∙◌, arith, append-nil, length-append}
use Rattle.std.proofs.lemmas.List.{append_assoc}
use Rattle.syntect_reading_state.specs.Places.{EntryPlace, path_of, places_from, places_behind}
use Rattle.syntect_reading_state.specs.Walking.{steps_from, steps_behind}
use Rattle.syntect_reading_state.specs.declared.match_iter.Waiting.{Waiting}
use Rattle.syntect_reading_state.specs.syntect_grammar_contexts.declared.context.ContextId.{ContextId}
use Rattle.syntect_reading_state.specs.syntect_grammar_contexts.declared.context.Context.{Context}
use Rattle.syntect_grammar.specs.declared.syntax_set.SyntaxSet.{SyntaxSet}

-- ---- one more context that waits ----

path_more : (ws : List Waiting) (w : Waiting) → path_of (ws ++ w ∷ []) ≡ path_of ws ++ w.target ∷ []
path_more [] w = refl
path_more (x ∷ ws) w = ap (λ ids. x.target ∷ ids) (path_more ws w)

behind_more : (room : ℕ) (set : SyntaxSet) (p : List ContextId) (ws : List Waiting) (w : Waiting)
    → places_behind room set p (ws ++ w ∷ []) ≡ places_from (room - length ws) set (p ++ path_of ws) w.context.now w.next ++ places_behind room set p ws
behind_more room set p [] w =
    let z : room - 0 ≡ room = omega arith in
    rw (z, append-nil p) (sym (append-nil (places_from room set p w.context.now w.next)))
behind_more room set p (x ∷ ws) w =
    let z : room - 1 - length ws ≡ room - length (x ∷ ws) = omega arith in
    let q : List ContextId = p ++ x.target ∷ [] in
    let rest : List EntryPlace = places_behind (room - 1) set q ws in
    let own : List EntryPlace = places_from room set p x.context.now x.next in
    ap (λ ps. ps ++ own) (behind_more (room - 1) set q ws w)
    ∙ append_assoc (places_from (room - 1 - length ws) set (q ++ path_of ws) w.context.now w.next) rest own
    ∙ ap (λ n. places_from n set (q ++ path_of ws) w.context.now w.next ++ (rest ++ own)) z
    ∙ ap (λ ids. places_from (room - length (x ∷ ws)) set ids w.context.now w.next ++ (rest ++ own)) (append_assoc p (x.target ∷ []) (path_of ws))

steps_more : (room : ℕ) (set : SyntaxSet) (p : List ContextId) (ws : List Waiting) (w : Waiting)
    → steps_behind room set p (ws ++ w ∷ []) ≡ steps_from (room - length ws) set (p ++ path_of ws) w.context.now w.next + steps_behind room set p ws
steps_more room set p [] w =
    let z : room - 0 ≡ room = omega arith in
    rw (z, append-nil p) (omega arith)
steps_more room set p (x ∷ ws) w =
    let z : room - 1 - length ws ≡ room - length (x ∷ ws) = omega arith in
    let q : List ContextId = p ++ x.target ∷ [] in
    let own : ℕ = steps_from room set p x.context.now x.next in
    let rest : ℕ = steps_behind (room - 1) set q ws in
    let h : steps_behind (room - 1) set q (ws ++ w ∷ []) ≡ steps_from (room - 1 - length ws) set (q ++ path_of ws) w.context.now w.next + rest = steps_more (room - 1) set q ws w in
    let e : steps_from (room - 1 - length ws) set (q ++ path_of ws) w.context.now w.next ≡ steps_from (room - length (x ∷ ws)) set (p ++ path_of (x ∷ ws)) w.context.now w.next
    = ap (λ n. steps_from n set (q ++ path_of ws) w.context.now w.next) z ∙ ap (λ ids. steps_from (room - length (x ∷ ws)) set ids w.context.now w.next) (append_assoc p (x.target ∷ []) (path_of ws)) in
    omega (arith, h, e)

module _ (room : ℕ) (set : SyntaxSet) (ws : List Waiting) (w : Waiting) where
  pub waiting_places : places_behind room set [] (ws ++ w ∷ []) ≡ places_from (room - length ws) set (path_of ws) w.context.now w.next ++ places_behind room set [] ws
  waiting_places = behind_more room set [] ws w

  pub waiting_steps : steps_behind room set [] (ws ++ w ∷ []) ≡ steps_from (room - length ws) set (path_of ws) w.context.now w.next + steps_behind room set [] ws
  waiting_steps = steps_more room set [] ws w

  less_room : room - length (ws ++ w ∷ []) ≡ room - length ws - 1
  less_room = omega (arith, length-append ws (w ∷ []))

  pub pushed_places : (c : Context) (k : ℕ) → places_from (room - length (ws ++ w ∷ [])) set (path_of (ws ++ w ∷ [])) c k ++ places_behind room set [] (ws ++ w ∷ [])
      ≡ places_from (room - length ws - 1) set (path_of ws ++ w.target ∷ []) c k ++ (places_from (room - length ws) set (path_of ws) w.context.now w.next ++ places_behind room set [] ws)
  pushed_places c k =
      ap (λ n. places_from n set (path_of (ws ++ w ∷ [])) c k ++ places_behind room set [] (ws ++ w ∷ [])) less_room
      ∙ ap (λ ids. places_from (room - length ws - 1) set ids c k ++ places_behind room set [] (ws ++ w ∷ [])) (path_more ws w)
      ∙ ap (λ ps. places_from (room - length ws - 1) set (path_of ws ++ w.target ∷ []) c k ++ ps) waiting_places

  pub pushed_steps : (c : Context) (k : ℕ) → steps_from (room - length (ws ++ w ∷ [])) set (path_of (ws ++ w ∷ [])) c k + steps_behind room set [] (ws ++ w ∷ [])
      ≡ steps_from (room - length ws - 1) set (path_of ws ++ w.target ∷ []) c k + (steps_from (room - length ws) set (path_of ws) w.context.now w.next + steps_behind room set [] ws)
  pushed_steps c k =
      ap (λ n. steps_from n set (path_of (ws ++ w ∷ [])) c k + steps_behind room set [] (ws ++ w ∷ [])) less_room
      ∙ ap (λ ids. steps_from (room - length ws - 1) set ids c k + steps_behind room set [] (ws ++ w ∷ [])) (path_more ws w)
      ∙ ap (λ n. steps_from (room - length ws - 1) set (path_of ws ++ w.target ∷ []) c k + n) waiting_steps
