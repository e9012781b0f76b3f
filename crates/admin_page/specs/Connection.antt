-- One connection for the page: when it is closed.
use Rattle.std.specs.Prelude.{◌≡◌, ℕ, ◌+◌, ◌-◌, ◌^◌, ◌≤◌, ◌⊎◌, length, drop, min, if◌then◌else◌, ◌==◌, ◌&&◌, nat_le}
use Rattle.http_server.specs.declared.state.Config.{Config}
use Rattle.http_server.specs.Connection as http
use Rattle.http_server.specs.History.{History, IsDone}
use Rattle.admin_page.specs.declared.connection.PageConnection.{PageConnection}

-- what was received, answered and sent
abbrev pub history : PageConnection → History
history c = http.history c.http

abbrev pub config : PageConnection → Config
config c = http.config_of c.http

-- when it is closed, in milliseconds
abbrev pub deadline : PageConnection → ℕ
deadline c = c.deadline

-- a head has at most 8 KiB, and a request no body
abbrev pub IsLimited : Config → Type 0
IsLimited limits = (limits.limits.max_head_len ≡ 8192) × (limits.max_body_len ≡ 0)

-- 5 s later, in milliseconds that are kept in 64 bits
abbrev pub five_seconds_after : ℕ → ℕ
five_seconds_after now = min (now + 5000) (2 ^ 64 - 1)

-- once `count` bytes more were sent: 5 s from now where these were the last of an answer
abbrev pub deadline_after : ℕ → History → ℕ → ℕ → ℕ
deadline_after deadline h count now =
    if nat_le 1 count && (length (drop count h.pending) == 0) then five_seconds_after now else deadline

-- HTTP has nothing more to do, or its time is over
abbrev pub IsOver : PageConnection → ℕ → Type 0
IsOver c now = IsDone (history c) ⊎ (deadline c ≤ now)
