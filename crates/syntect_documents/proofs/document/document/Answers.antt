use Rattle.std.proofs.Common.{List, ℕ, ◌++◌, codes, ap, ◌∙◌, string_bytes}
use Rattle.syntect_documents.specs.syntect_writers.Entities.{escaped}
use Rattle.syntect_documents.specs.syntect_writers.Names.{shown_text}
use Rattle.syntect_documents.specs.Document.{after, front, guarded, up_to_end_tag}
use Rattle.syntect_documents.proofs.DocumentLaws.{sheet_of_document, title_of_document}
use Rattle.syntect_documents.proofs.JoinLaws.{six_joined}
use Rattle.syntect_documents.proofs.document.document.Goals as goal

pub returns-clause-text : goal.returns-clause-text
returns-clause-text c =
    let parts : List ℕ = escaped c.args.title.now ++ (codes "</title>\n<style>\n" ++ (guarded c.args.sheet.now ++ (codes "</style>\n</head>\n<body>\n" ++ (c.args.body.now ++ codes "</body>\n</html>\n")))) in
    six_joined (escaped c.args.title.now) (codes "</title>\n<style>\n") (guarded c.args.sheet.now) (codes "</style>\n</head>\n<body>\n") c.args.body.now (codes "</body>\n</html>\n")
    (string_bytes c.in_ok-out.out) (string_bytes c.push_escaped.new.out) (string_bytes c.push_str.new.self) (string_bytes c.push_guarded.new.out) (string_bytes c.push_str-2.new.self) (string_bytes c.push_str-3.new.self) (string_bytes c.push_str-4.new.self)
    c.in_ok-push_escaped.ensures c.in_ok-push_str.ensures.bytes c.in_ok-push_guarded.ensures c.in_ok-push_str-2.ensures.bytes c.in_ok-push_str-3.ensures.bytes c.in_ok-push_str-4.ensures.bytes
    ∙ ap (λ (xs : List ℕ). xs ++ parts) c.in_ok-out.ensures.ok

pub returns-clause-title : goal.returns-clause-title
returns-clause-title c =
    ap (λ (d : List ℕ). shown_text (up_to_end_tag (after (codes "<title>") d))) (returns-clause-text c)
    ∙ ap shown_text (title_of_document c.args.title.now c.args.sheet.now c.args.body.now (c.escapes_show_the_text.ensures.harmless c.args.title.now))
    ∙ c.escapes_show_the_text.ensures.shown c.args.title.now

pub returns-clause-sheet : goal.returns-clause-sheet
returns-clause-sheet c =
    ap (λ (d : List ℕ). up_to_end_tag (after (codes "<style>\n") d)) (returns-clause-text c)
    ∙ sheet_of_document c.args.title.now c.args.sheet.now c.args.body.now (c.escapes_show_the_text.ensures.harmless c.args.title.now)
