-- The names of the commands, and how many words a request of each has: Redis command reference.
-- Letters count without regard to ASCII case. The count includes the name. Which options SET may have is said in
-- Plan.antt.
use Rattle.std.specs.Prelude.{ℕ, List, [], ◌∷◌, ◌==◌, ◌%◌, nat_le, Bool, ◌&&◌, Option, map, codes}
use Rattle.std.specs.List.{find}
use Rattle.std.specs.Str.{bytes_eq}
use Rattle.std.specs.Char.{to_ascii_lowercase}
use Rattle.key_split.specs.declared.name.Name.{Name}
use Rattle.key_split.specs.declared.name.Name.TheVariants.{Get, Set, SetNx, GetSet, GetDel, Append, StrLen, Incr, Decr, IncrBy, Del, Exists, MGet, MSet, Ping, Echo, Select, Quit}

abbrev pub text_of : Name → List ℕ
text_of Get = codes "GET"
text_of Set = codes "SET"
text_of SetNx = codes "SETNX"
text_of GetSet = codes "GETSET"
text_of GetDel = codes "GETDEL"
text_of Append = codes "APPEND"
text_of StrLen = codes "STRLEN"
text_of Incr = codes "INCR"
text_of Decr = codes "DECR"
text_of IncrBy = codes "INCRBY"
text_of Del = codes "DEL"
text_of Exists = codes "EXISTS"
text_of MGet = codes "MGET"
text_of MSet = codes "MSET"
text_of Ping = codes "PING"
text_of Echo = codes "ECHO"
text_of Select = codes "SELECT"
text_of Quit = codes "QUIT"

abbrev pub names : List Name
names = Get ∷ Set ∷ SetNx ∷ GetSet ∷ GetDel ∷ Append ∷ StrLen ∷ Incr ∷ Decr ∷ IncrBy ∷ Del ∷ Exists ∷ MGet ∷ MSet ∷ Ping ∷ Echo ∷ Select ∷ Quit ∷ []

-- the two texts are one, without regard to case
abbrev pub same_letters : List ℕ → List ℕ → Bool
same_letters a b = bytes_eq (map to_ascii_lowercase a) (map to_ascii_lowercase b)

-- the command that a word names
unfoldable pub name_of : List ℕ → Option Name
name_of word = find (λ name. same_letters word (text_of name)) names

-- a request of the command may have this number of words, its name among them
abbrev pub allows : Name → ℕ → Bool
allows Get n = n == 2
allows Set n = nat_le 3 n
allows SetNx n = n == 3
allows GetSet n = n == 3
allows GetDel n = n == 2
allows Append n = n == 3
allows StrLen n = n == 2
allows Incr n = n == 2
allows Decr n = n == 2
allows IncrBy n = n == 3
allows Del n = nat_le 2 n
allows Exists n = nat_le 2 n
allows MGet n = nat_le 2 n
allows MSet n = nat_le 3 n && n % 2 == 1
allows Ping n = nat_le 1 n && nat_le n 2
allows Echo n = n == 2
allows Select n = n == 2
allows Quit n = n == 1
