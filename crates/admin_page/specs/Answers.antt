-- What a request for the page gets: `/metrics` the figures, `/healthz` the health, `/drain` an end of the run. The first two are read, by
-- GET or HEAD; the last is asked for by POST.
use Rattle.std.specs.Prelude.{ℕ, List, [], ◌∷◌, Bool, ◌||◌, Option, Some, None, codes, bytes_eq, nat_eq, if◌then◌else◌}
use Rattle.std.specs.List.{after_first, before_first}
use Rattle.http_server.specs.declared.response.Response.{Response}
use Rattle.http_server.specs.Response.{IsResponse}
use Rattle.node_link.specs.Line.{number_within}
use Rattle.admin_page.specs.declared.answers.Resource.{Resource}
use Rattle.admin_page.specs.declared.answers.Resource.TheVariants.{Page, Health, Drain, Unread, ReadOnly, PostOnly, Unknown}
use Rattle.admin_page.specs.declared.figures.Figures.{Figures}
use Rattle.admin_page.specs.Health.{health_text, is_ready}
use Rattle.admin_page.specs.Page.{page_text}

-- GET, and HEAD, whose answer has no body
abbrev pub reads : List ℕ → Bool
reads method = bytes_eq method (codes "GET") || bytes_eq method (codes "HEAD")

abbrev pub is_equals : ℕ → Bool
is_equals byte = nat_eq byte 61

-- the number behind this name, of one to five digits, up to 65,535
abbrev pub seconds_named : List ℕ → List ℕ → Option ℕ
seconds_named name digits = if bytes_eq name (codes "seconds") then number_within 0 65535 digits else None

-- `seconds=N`
abbrev pub seconds_in : List ℕ → Option ℕ
seconds_in query = seconds_named (before_first is_equals query) (after_first is_equals query)

-- after how many seconds of a drain what is left is cut: 30 where nothing says so
abbrev pub seconds_of : Option (List ℕ) → Option ℕ
seconds_of None = Some 30
seconds_of (Some query) = seconds_in query

abbrev pub drain_by : Option ℕ → Resource
drain_by (Some seconds) = Drain seconds
drain_by None = Unread

abbrev pub resource_of : List ℕ → List ℕ → Option (List ℕ) → Resource
resource_of method path query =
    if bytes_eq path (codes "/metrics") then (if reads method then Page else ReadOnly)
    else if bytes_eq path (codes "/healthz") then (if reads method then Health else ReadOnly)
    else if bytes_eq path (codes "/drain") then (if bytes_eq method (codes "POST") then drain_by (seconds_of query) else PostOnly)
    else Unknown

-- after how many seconds what is left is to be cut, once this was asked for
abbrev pub drain_after : Option ℕ → Resource → Option ℕ
drain_after before (Drain seconds) = Some seconds
drain_after before other = before

abbrev pub with_type : List ℕ → List (List ℕ × List ℕ)
with_type kind = (codes "content-type", kind) ∷ []

abbrev pub allowing : List ℕ → List (List ℕ × List ℕ)
allowing methods = (codes "allow", methods) ∷ []

abbrev pub AnswersAs : Resource → Figures → Response → Type 0
AnswersAs Page f response = IsResponse 200 (with_type (codes "text/plain; version=0.0.4; charset=utf-8")) (page_text f) response
AnswersAs Health f response =
    IsResponse (if is_ready f.is_draining f.has_map f.nodes.now then 200 else 503) (with_type (codes "text/plain; charset=utf-8"))
    (health_text f.is_draining f.has_map f.nodes.now) response
AnswersAs (Drain seconds) f response = IsResponse 202 (with_type (codes "text/plain; charset=utf-8")) (codes "draining\n") response
AnswersAs Unread f response = IsResponse 400 (with_type (codes "text/plain; charset=utf-8")) (codes "seconds takes a number from 0 to 65535\n") response
AnswersAs ReadOnly f response = IsResponse 405 (allowing (codes "GET, HEAD")) [] response
AnswersAs PostOnly f response = IsResponse 405 (allowing (codes "POST")) [] response
AnswersAs Unknown f response = IsResponse 404 (with_type (codes "text/plain; charset=utf-8")) (codes "not found\n") response

abbrev pub Answers : Figures → List ℕ → List ℕ → Option (List ℕ) → Response → Type 0
Answers f method path query response = AnswersAs (resource_of method path query) f response
