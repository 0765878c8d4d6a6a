use Rattle.hy_words.proofs.Headers.{headers_made, term_headers, entry_headers}
use Rattle.hy_words.proofs.laws.headers_by_tag.Goals as goal

pub returns-clause-made : goal.returns-clause-made
returns-clause-made c = headers_made

pub returns-clause-terms : goal.returns-clause-terms
returns-clause-terms c = term_headers

pub returns-clause-entries : goal.returns-clause-entries
returns-clause-entries c = entry_headers
