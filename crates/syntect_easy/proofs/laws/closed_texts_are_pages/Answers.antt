use Rattle.syntect_easy.proofs.ClassedPageLaws.{closed_is_page, given_stands}
use Rattle.syntect_easy.proofs.laws.closed_texts_are_pages.Goals as goal

pub returns-clause-stands : goal.returns-clause-stands
returns-clause-stands c = λ set syntax repository style lines g.
    given_stands set syntax repository style lines g c.answers_more.ensures c.stack_is_open.ensures

pub returns-clause-pages : goal.returns-clause-pages
returns-clause-pages c = λ set syntax repository style lines g.
    closed_is_page set syntax repository style lines g c.answers_more.ensures c.stack_is_open.ensures c.pages_are_seen.ensures
