use Rattle.std.proofs.Common.{◌≡◌, ◌++◌, ◌∷◌, [], ◌<◌, ◌≢◌, ℕ, List, ap, ◌∙◌, arith, rules}
use Rattle.syntect_style.specs.Cut.{plain, IsFront}
use Rattle.syntect_style.proofs.CutLaws.{first_cut, none_cut, empty_plain}
use Rattle.syntect_style.proofs.cut.cut_first.Goals as goal

some_left : (n : ℕ) → n ≢ 0 → 0 < n
some_left n h = omega (arith, h)

pub returns : goal.returns
returns g c =
    let piece = c.in-Some.piece.now in
    let others = c.in-Some.others.now in
    let split : c.args.rest.now ≡ piece ∷ others = search rules in
    let front : IsFront piece.1.now c.args.left c.floor_char_boundary.result = record { bound = c.floor_char_boundary.ensures.bound; boundary = c.floor_char_boundary.ensures.boundary; longest = c.floor_char_boundary.ensures.nearest } in
    first_cut c.args.left c.floor_char_boundary.result (piece.0, piece.1.now) (plain others) (plain c.args.rest.now) (plain c.args.before.now.items) _ (plain c.push_piece-2.new.out.items) _
    (ap plain split) (some_left c.args.left c.if-left-eq0.false) front
    (c.in_ok-push_piece.ensures ∙ ap (λ (t : List ℕ). plain c.args.before.now.items ++ (piece.0, t) ∷ []) c.split_at.ensures.front)
    (c.in_ok-push_piece-2.ensures ∙ ap (λ l. plain l ++ (piece.0, c.split_at.result.1.now) ∷ []) c.new-after.ensures.items ∙ ap (λ (t : List ℕ). (piece.0, t) ∷ []) c.split_at.ensures.back)
    c.in_ok-push_all-2.ensures

pub returns-in_default : goal.returns-in_default
returns-in_default g c = none_cut c.args.left (plain c.args.rest.now) (plain c.args.before.now.items) _ (empty_plain c.args.rest.now c.in_default.ensures.cases) (ap plain c.new-after.ensures.items)
