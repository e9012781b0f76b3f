-- What the words of `nodes` and `serve` ask for. A port is one to five decimal digits, from 1 to 65,535.
-- This project's choice. A host is not looked up here. Digits may begin with zeros, so `064` workers are 64.
use Rattle.std.specs.Prelude.{ℕ, List, [], ◌∷◌, Bool, Option, Some, None, ◌&&◌, nat_eq, nat_le, length, codes, option_and_then, option_map, if◌then◌else◌}
use Rattle.std.specs.List.{before_first, after_first}
use Rattle.slot_map.specs.Table.{Endpoint}
use Rattle.resp_wire.specs.Text.{is_one_line}
use Rattle.node_link.specs.Line.{number_within, endpoint_in}

abbrev pub is_colon : ℕ → Bool
is_colon byte = nat_eq byte 58

abbrev pub is_comma : ℕ → Bool
is_comma byte = nat_eq byte 44

abbrev pub port_in : List ℕ → Option ℕ
port_in text = number_within 1 65535 text

-- an endpoint whose host is not empty, and has no CR or LF
abbrev pub with_host : Option Endpoint → Option Endpoint
with_host None = None
with_host (Some at) = if nat_le 1 (length at.host) && is_one_line at.host then Some at else None

-- HOST:PORT, cut at its last colon
abbrev pub address_in : List ℕ → Option Endpoint
address_in text = with_host (endpoint_in text)

-- A,B,C: three ports
abbrev pub three : Option ℕ → Option ℕ → Option ℕ → Option (List ℕ)
three a b c = option_and_then (λ first. option_and_then (λ second. option_map (λ third. first ∷ second ∷ third ∷ []) c) b) a

abbrev pub ports_in : List ℕ → Option (List ℕ)
ports_in text =
    let rest = after_first is_comma text in
    three (port_in (before_first is_comma text)) (port_in (before_first is_comma rest)) (port_in (after_first is_comma rest))

-- HOST:PORT, where it is given
abbrev pub optional_address : Option (List ℕ) → Option (Option Endpoint)
optional_address None = Some None
optional_address (Some text) = option_map Some (address_in text)

-- the addresses that texts name, where each names one
abbrev pub addresses_in : List (List ℕ) → Option (List Endpoint)
addresses_in [] = Some []
addresses_in (text ∷ texts) = option_and_then (λ at. option_map (λ others. at ∷ others) (addresses_in texts)) (address_in text)

-- one to sixteen of them
abbrev pub seeds_in : List (List ℕ) → Option (List Endpoint)
seeds_in texts = if nat_le 1 (length texts) && nat_le (length texts) 16 then addresses_in texts else None

-- where the proxy listens, nodes of its cluster, how many workers it has, and where its page is, if it has one
pub record Asked : Type 0 where
  pub listen : Endpoint
  pub seeds : List Endpoint
  pub workers : ℕ
  pub admin : Option Endpoint

abbrev pub asked : Option Endpoint → Option (List Endpoint) → Option ℕ → Option (Option Endpoint) → Option Asked
asked (Some listen) (Some seeds) (Some workers) (Some admin) = Some (record { listen = listen; seeds = seeds; workers = workers; admin = admin })
asked _ _ _ _ = None

-- the words of `serve`, each by its name, of which the seeds are more than one: 1 to 64 workers
abbrev pub serving_in : (List ℕ → Option (List ℕ)) → (List ℕ → Option (List (List ℕ))) → Option Asked
serving_in word words =
    asked (option_and_then address_in (word (codes "listen"))) (option_and_then seeds_in (words (codes "seed")))
    (option_and_then (number_within 1 64) (word (codes "workers"))) (optional_address (word (codes "admin")))
