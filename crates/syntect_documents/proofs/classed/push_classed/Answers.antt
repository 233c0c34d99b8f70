use Rattle.std.proofs.Common.{List, ℕ, ◌++◌, length, ap, ◌∙◌, string_bytes}
use Rattle.std.specs.List.{flat_map}
use Rattle.syntect_documents.specs.syntect_easy.Classed.{closing_tags}
use Rattle.syntect_documents.specs.syntect_scope.declared.stack.ScopeStack.{ScopeStack}
use Rattle.syntect_documents.specs.syntect_writers.Classes.{closing_tag, opening_tag, prefix_of}
use Rattle.syntect_documents.specs.syntect_writers.Marks.{marks, stack_after, written}
use Rattle.syntect_documents.specs.Lines.{line_tag}
use Rattle.syntect_documents.proofs.JoinLaws.{five_joined}
use Rattle.syntect_documents.proofs.classed.push_classed.Goals as goal

pub returns-clause-text : goal.returns-clause-text
returns-clause-text c =
    let prefix : List ℕ = prefix_of c.args.classes.style in
    let texts : List (List ℕ) = c.args.classes.repository.now in
    let old : ScopeStack = c.args.stack.now in
    let opened : List ℕ = string_bytes c.push_line_tag.new.out in
    let written_so : List ℕ = string_bytes c.push_str.new.self in
    five_joined (line_tag c.args.form c.args.number) (flat_map (opening_tag prefix texts) old.scopes) (written prefix texts (marks c.args.line.now 0 old c.args.ops.now)) (closing_tags (length (stack_after old c.args.ops.now).scopes)) closing_tag
    (string_bytes c.args.out.now) opened (string_bytes c.push_opening_tags.new.out) written_so (string_bytes c.push_closing_tags.new.out) (string_bytes c.push_str-2.new.self)
    c.in_ok-push_line_tag.ensures
    (c.in_ok-push_opening_tags.ensures ∙ ap (λ (scopes : List (List ℕ)). opened ++ flat_map (opening_tag prefix texts) scopes) c.as_slice.ensures)
    (c.in_ok-push_str.ensures.bytes ∙ ap (λ (xs : List ℕ). string_bytes c.push_opening_tags.new.out ++ xs) (c.as_str.ensures.value ∙ c.in_ok-spans.ensures.text))
    (c.in_ok-push_closing_tags.ensures ∙ ap (λ (n : ℕ). written_so ++ closing_tags n) (c.len.ensures ∙ ap (λ (s : ScopeStack). length s.scopes) c.in_ok-spans.ensures.stack))
    c.in_ok-push_str-2.ensures.bytes
