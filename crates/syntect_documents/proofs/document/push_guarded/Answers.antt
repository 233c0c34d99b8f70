use Rattle.std.proofs.Common.{◌∙◌, ap, sym, List, ℕ, ◌++◌, lit<, string_bytes}
use Rattle.std.specs.Prelude.{Some, None}
use Rattle.std.proofs.lemmas.Str.Pattern.{split_parts}
use Rattle.syntect_documents.specs.Document.{guarded}
use Rattle.syntect_documents.proofs.DocumentLaws.{guarded_more, guarded_whole, rest_shorter, rest_utf8}
use Rattle.syntect_documents.proofs.document.push_guarded.Goals as goal

pub loop-front-preserved : goal.loop-front-preserved
loop-front-preserved c =
    let parts = split_parts 60 c.loop-front.rest.now (Some (c.in-Some.front, c.in-Some.back)) c.in-Some.ensures.cases (lit< tt) in (
      rest_utf8 c.loop-front.rest.now c.in-Some.front.now c.in-Some.back.now c.loop-front.invariant.0 c.in-Some.ensures.cases,
      guarded_more c.in-Some.front.now c.in-Some.back.now c.loop-front.rest.now (string_bytes c.loop-front.out) (string_bytes c.push_str.new.self) (string_bytes c.push_str-in-Some.new.self) (string_bytes c.push_guard.new.out) _
          parts.0 parts.1 c.in_ok-push_str.ensures.bytes c.in_ok-push_str-2.ensures.bytes c.in_ok-push_guard.ensures c.loop-front.invariant.1,
    )

pub loop-front-smaller : goal.loop-front-smaller
loop-front-smaller c =
    let parts = split_parts 60 c.loop-front.rest.now (Some (c.in-Some.front, c.in-Some.back)) c.in-Some.ensures.cases (lit< tt) in rest_shorter c.in-Some.front.now c.in-Some.back.now c.loop-front.rest.now parts.0

pub returns : goal.returns
returns c =
    let none = split_parts 60 c.loop-front.rest.now None c.in_default.ensures.cases (lit< tt) in
    c.in_ok-push_str-3.ensures.bytes ∙ ap (λ (xs : List ℕ). string_bytes c.loop-front.out ++ xs) (sym (guarded_whole c.loop-front.rest.now none)) ∙ c.loop-front.invariant.1
