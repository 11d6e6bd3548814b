-- What a request gets, by its method (RFC 9110, 9) and its path: a page for a browser at /, the numbers at /metrics, at /live and /ready whether the
-- run is as it should be. A page is only read, by GET or HEAD.
use Rattle.std.specs.Prelude.{ℕ, List, [], ◌∷◌, Bool, ◌||◌, bytes_eq, codes, if◌then◌else◌}
use Rattle.fp_metrics.specs.declared.answer.Answer.{Answer}
use Rattle.fp_metrics.specs.declared.answer.Answer.TheVariants as answers
use Rattle.fp_metrics.specs.declared.answer.Health.{Health}
use Rattle.http1.specs.Fields.{Header}

abbrev pub well_if : Bool → Answer
well_if well = if well then answers.Well else answers.Unwell

-- what a page says
abbrev pub answer_at : List ℕ → Health → Answer
answer_at path health =
    if bytes_eq path (codes "/") then answers.Page
    else if bytes_eq path (codes "/metrics") then answers.Metrics
    else if bytes_eq path (codes "/live") then well_if health.is_live
    else if bytes_eq path (codes "/ready") then well_if health.is_ready
    else answers.NotFound

abbrev pub is_read : List ℕ → Bool
is_read method = bytes_eq method (codes "GET") || bytes_eq method (codes "HEAD")

-- a page that is there is read
abbrev pub read_by : Bool → Answer → Answer
read_by read answers.NotFound = answers.NotFound
read_by read answer = if read then answer else answers.NotAllowed

abbrev pub answer_to : List ℕ → List ℕ → Health → Answer
answer_to method path health = read_by (is_read method) (answer_at path health)

-- the status (RFC 9110, 15)
abbrev pub status_of : Answer → ℕ
status_of answers.Page = 200
status_of answers.Metrics = 200
status_of answers.Well = 200
status_of answers.Unwell = 503
status_of answers.NotFound = 404
status_of answers.NotAllowed = 405

-- the body, these being the page and the numbers
abbrev pub text_of : Answer → List ℕ → List ℕ → List ℕ
text_of answers.Page page metrics = page
text_of answers.Metrics page metrics = metrics
text_of answers.Well page metrics = codes "ok\n"
text_of answers.Unwell page metrics = codes "not ok\n"
text_of answers.NotFound page metrics = codes "not found\n"
text_of answers.NotAllowed page metrics = codes "not allowed\n"

-- the header fields: the type of the text, and for a method that isn't allowed those that are
abbrev pub content_of : Answer → List ℕ
content_of answers.Page = codes "text/html; charset=utf-8"
content_of answer = codes "text/plain; version=0.0.4"

abbrev pub content_type : Answer → Header
content_type answer = (codes "content-type", content_of answer)

abbrev pub fields_for : Answer → List Header
fields_for answers.NotAllowed = content_type answers.NotAllowed ∷ (codes "allow", codes "GET, HEAD") ∷ []
fields_for answer = content_type answer ∷ []
