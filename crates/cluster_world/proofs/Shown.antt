-- What links show of what they keep, and of the history.
use Rattle.std.proofs.Common.{◌≡◌, ◌≢◌, ℕ, zero, suc, ◌+◌, ◌<◌, ◌≤◌, List, [], ◌∷◌, ◌++◌, length, Some, None, Option, Bool, true, false, refl, sym, ap, ◌∙◌, subst, arith}
use Rattle.std.specs.Prelude.{slice_get, slice_set, slice_index_or, map, All, MatchOption, Ok}
use Rattle.std.specs.Borrow.{Bor}
use Rattle.std.specs.Option.{option_map}
use Rattle.std.proofs.lemmas.List.{length_push, map_push}
use Rattle.std.proofs.lemmas.List.Elements.{All-map, All-push}
use Rattle.std.proofs.lemmas.Option.{slice_get_within, get_or_from_slice_get}
use Rattle.resp_wire.specs.Data.{Data, items_of, list_of}
use Rattle.resp_wire.specs.Seen.{data_of}
use Rattle.resp_wire.specs.declared.value.Value.{Value}
use Rattle.resp_wire.specs.declared.value.Value.TheVariants as value
use Rattle.key_split.specs.PartModel.{PartModel}
use Rattle.key_split.specs.declared.travel.Ticket.{Ticket}
use Rattle.key_split.specs.declared.travel.Told.TheVariants.{Reply}
use Rattle.node_model.specs.History.{EntryModel}
use Rattle.world_laws.specs.State.{Link, answered_of, replied}
use Rattle.world_laws.specs.declared.state.LinkRequest.{LinkRequest}
use Rattle.world_laws.specs.declared.state.LinkReply.{LinkReply}
use Rattle.world_laws.specs.declared.state.LinkReply.TheVariants.{To}
use Rattle.world_laws.specs.declared.state.LinkReply.TheVariants as back
use Rattle.world_laws.specs.Places.{in_backs}
use Rattle.world_laws.specs.Places.Item.{Comes}
use Rattle.cluster_world.specs.Kept.{LinkModel, value_of, reply_at, shown_back, shown, IsBelow, KeepsBelow, kept_for, in_kept, keeps, refusal_in, Notes}
use Rattle.cluster_world.specs.Links.{LinksModel, linked, with_link, There, NoneThere, FirstIs, Begins, Fetches, IsOpen}
use Rattle.cluster_world.specs.Rests.{sought, LineRests, LinkRests}
use Rattle.cluster_world.specs.declared.asks.Sought.{Sought}
use Rattle.cluster_world.specs.declared.link.Kept.{Kept}
use Rattle.cluster_world.specs.declared.link.Kept.TheVariants.{Welcome, Refusal, Entry}
use Rattle.cluster_world.proofs.Lookups.{set-itself, same-item}

-- a value is its data

listed : (ds : List Data) → list_of (items_of ds) ≡ ds
listed [] = refl
listed (d ∷ ds) = ap (λ es. d ∷ es) (listed ds)

valued : (v : Value) → value_of (data_of v) ≡ v
valued (value.Simple t) = refl
valued (value.Error t) = refl
valued (value.Integer n) = refl
valued (value.Bulk b) = refl
valued value.NullBulk = refl
valued (value.Array ds) = ap value.Array (listed ds)
valued value.NullArray = refl

-- the reply at a place

reply-last : (h : List EntryModel) (e : EntryModel) (place : ℕ) → place ≡ length h → reply_at (h ++ e ∷ []) place ≡ e.reply
reply-last [] e zero is = refl
reply-last [] e (suc p) is = absurd (omega (arith, is))
reply-last (x ∷ h) e zero is = absurd (omega (arith, is))
reply-last (x ∷ h) e (suc p) is = reply-last h e p (omega (arith, is))

reply-earlier : (h more : List EntryModel) (place : ℕ) → place < length h → reply_at (h ++ more) place ≡ reply_at h place
reply-earlier [] more place lt = absurd (omega (arith, lt))
reply-earlier (x ∷ h) more zero lt = refl
reply-earlier (x ∷ h) more (suc p) lt = reply-earlier h more p (omega (arith, lt))

pub reply-is : (h : List EntryModel) (place : ℕ) (e : EntryModel) → slice_get h place ≡ Some e → reply_at h place ≡ e.reply
reply-is [] place e is = absurd (cc)
reply-is (x ∷ h) zero e is = let same : x ≡ e = cc in ap (λ (y : EntryModel). y.reply) same
reply-is (x ∷ h) (suc p) e is = reply-is h p e is

pub shows-reply : (h : List EntryModel) (ticket : Ticket) (place : ℕ) (e : EntryModel) (reply : Value) → slice_get h place ≡ Some e → data_of reply ≡ e.reply
    → shown_back h (Entry ticket place) ≡ To ticket (Reply reply)
shows-reply h ticket place e reply at same = ap (λ v. To ticket (Reply v)) (ap value_of (reply-is h place e at ∙ sym same) ∙ valued reply)

-- a reply that is noted
pub notes-reply : (h : List EntryModel) (ticket : Ticket) (part : PartModel) (moment : ℕ) (reply : Value) (place : ℕ) → place ≡ length h
    → Notes h ticket part moment (Reply reply) (h ++ record { ticket = ticket; part = part; reply = data_of reply; moment = moment } ∷ []) (Entry ticket place)
notes-reply h ticket part moment reply place is =
    let e : EntryModel = record { ticket = ticket; part = part; reply = data_of reply; moment = moment } in
    record {
      history = refl;
      shows = ap (λ d. To ticket (Reply (value_of d))) (reply-last h e place is) ∙ ap (λ v. To ticket (Reply v)) (valued reply);
      below = omega (arith, is, length_push h e);
      longer = λ count lt. omega (arith, lt, length_push h e);
      same = λ p lt. reply-earlier h (e ∷ []) p lt;
    }

-- lists of links

pub at-shown : (ls : List LinkModel) (h : List EntryModel) (at : ℕ) (l : LinkModel) → slice_get ls at ≡ Some l → slice_get (map (shown h) ls) at ≡ Some (shown h l)
at-shown [] h at l e = absurd (cc)
at-shown (x ∷ ls) h zero l e = let same : x ≡ l = cc in ap (λ y. Some (shown h y)) same
at-shown (x ∷ ls) h (suc at) l e = at-shown ls h at l e

pub set-shown : (ls : List LinkModel) (h : List EntryModel) (at : ℕ) (l : LinkModel) → map (shown h) (slice_set ls at l) ≡ slice_set (map (shown h) ls) at (shown h l)
set-shown [] h at l = refl
set-shown (x ∷ ls) h zero l = refl
set-shown (x ∷ ls) h (suc at) l = ap (λ ys. shown h x ∷ ys) (set-shown ls h at l)

pub shown-length : (ls : List LinkModel) (h : List EntryModel) → length (map (shown h) ls) ≡ length ls
shown-length [] h = refl
shown-length (x ∷ ls) h = omega (arith, shown-length ls h)

pub set-linked : (ls : List LinkModel) (h : List EntryModel) (at : ℕ) (l : LinkModel) → linked (slice_set ls at l) h ≡ with_link (linked ls h) at (shown h l)
set-linked ls h at l = ap (λ xs. record { links = xs; history = h }) (set-shown ls h at l)

-- a link that shows the same
pub set-same : (ls : List LinkModel) (h : List EntryModel) (at : ℕ) (l new : LinkModel) → slice_get ls at ≡ Some l → shown h new ≡ shown h l → linked (slice_set ls at new) h ≡ linked ls h
set-same ls h at l new e same =
    ap (λ xs. record { links = xs; history = h })
    (set-shown ls h at new ∙ ap (slice_set (map (shown h) ls) at) same ∙ set-itself (map (shown h) ls) at (shown h l) (at-shown ls h at l e))

-- behind the last link there is none
pub none-past : (ls : List LinkModel) (h : List EntryModel) (k : LinksModel) → linked ls h ≡ k → (at : ℕ) → length ls ≤ at → (P : Link → Type 0) → NoneThere k at P
none-past ls h k is at le P = subst (λ (x : LinksModel). NoneThere x at P) is (λ l e p. omega (arith, le, shown-length ls h, slice_get_within (map (shown h) ls) at l e))

module _ (ls : List LinkModel) (h : List EntryModel) (k : LinksModel) (is : linked ls h ≡ k) (at : ℕ) (l : LinkModel) (e : slice_get ls at ≡ Some l) where
  pub there : (P : LinksModel → Link → Type 0) → P (linked ls h) (shown h l) → There k at (P k)
  there P p = subst (λ (x : LinksModel). There x at (P x)) is (shown h l, at-shown ls h at l e, p)

  pub none-there : (P : Link → Type 0) → (P (shown h l) → ⊥) → NoneThere k at P
  none-there P never = subst (λ (x : LinksModel). NoneThere x at P) is (λ x ex p. never (subst P (same-item (map (shown h) ls) at x (shown h l) ex (at-shown ls h at l e)) p))

  pub here : (P : Link → Type 0) → There k at P → P (shown h l)
  here P t =
      let u : There (linked ls h) at P = subst (λ (x : LinksModel). There x at P) (sym is) t in
      subst P (same-item (map (shown h) ls) at u.0 (shown h l) u.1 (at-shown ls h at l e)) u.2

  module _ (new : LinkModel) (taken : new ≡ record l { backs = new.backs; room = new.room }) (open' : l.is_open ≡ true) where
    pub fetched : (b : Kept) (shows : LinkReply) → shown_back h b ≡ shows → l.backs ≡ b ∷ new.backs
        → There k at (λ x. IsOpen x × ((rest : List LinkReply) × (x.backs ≡ shows ∷ rest) × (linked (slice_set ls at new) h ≡ with_link k at (record x { backs = rest }))))
    fetched b shows same first =
        there (λ k x. IsOpen x × ((rest : List LinkReply) × (x.backs ≡ shows ∷ rest) × (linked (slice_set ls at new) h ≡ with_link k at (record x { backs = rest }))))
        (open', (map (shown_back h) new.backs, ap (map (shown_back h)) first ∙ (λ i. same i ∷ map (shown_back h) new.backs), set-linked ls h at new ∙ ap (λ x. with_link (linked ls h) at (shown h x)) taken))

    pub fetched-other : (b : Kept) → l.backs ≡ b ∷ new.backs → ((ticket : Ticket) (place : ℕ) (rest : List Kept) → l.backs ≡ Entry ticket place ∷ rest → ⊥) → Fetches k at (Ok (refusal_in b)) (linked (slice_set ls at new) h)
    fetched-other Welcome first never = fetched Welcome back.Welcome refl first
    fetched-other (Refusal ticket told) first never = fetched (Refusal ticket told) (To ticket told) refl first
    fetched-other (Entry ticket place) first never = absurd (never ticket place new.backs first)

  pub first-request : (r : Option (Bor LinkRequest)) → MatchOption r (l.requests ≡ []) (λ request. (rest : List LinkRequest) × (l.requests ≡ request.now ∷ rest)) → FirstIs k at (option_map (λ (x : Bor LinkRequest). x.now) r)
  first-request None m = none-there (λ (x : Link). x.requests ≢ []) (λ p. p m)
  first-request (Some request) m = there (λ x. Begins request.now) m

-- where a link is there
pub there-within : (ls : List LinkModel) (h : List EntryModel) (k : LinksModel) (at : ℕ) (P : Link → Type 0) → linked ls h ≡ k → There k at P → at < length ls
there-within ls h k at P is t =
    let u : There (linked ls h) at P = subst (λ (x : LinksModel). There x at P) (sym is) t in
    omega (arith, slice_get_within (map (shown h) ls) at u.0 u.1, shown-length ls h)

-- whose replies they are, and what they tell

pub answered-shown : (h : List EntryModel) (ks : List Kept) → answered_of (map (shown_back h) ks) ≡ kept_for ks
answered-shown h [] = refl
answered-shown h (Welcome ∷ ks) = answered-shown h ks
answered-shown h (Refusal t told ∷ ks) = ap (λ ts. t ∷ ts) (answered-shown h ks)
answered-shown h (Entry t place ∷ ks) = ap (λ ts. t ∷ ts) (answered-shown h ks)

sought-shown : (h : List EntryModel) (s : Sought) (ks : List Kept) → in_backs (sought s) (map (shown_back h) ks) ≡ in_kept (sought s) ks
sought-shown h s [] = refl
sought-shown h s (Welcome ∷ ks) = sought-shown h s ks
sought-shown h s (Refusal t told ∷ ks) = ap (λ n. sought s (Comes t told) + n) (sought-shown h s ks)
sought-shown h s (Entry t place ∷ ks) = omega (arith, sought-shown h s ks)

rests-shown : (h : List EntryModel) (l : LinkModel) (s : Sought) → LineRests l s → LinkRests (shown h l) s
unfolding LineRests LinkRests
rests-shown h l s r = (r.0, sought-shown h s l.backs ∙ r.1)

shown-rests : (h : List EntryModel) (l : LinkModel) (s : Sought) → LinkRests (shown h l) s → LineRests l s
unfolding LineRests LinkRests
shown-rests h l s r = (r.0, sym (sought-shown h s l.backs) ∙ r.1)

pub all-rest : (ls : List LinkModel) (h : List EntryModel) (s : Sought) → All (λ l. LineRests l s) ls → All (λ l. LinkRests l s) (map (shown h) ls)
all-rest ls h s all = All-map (λ l. LinkRests l s) (shown h) ls (λ k d lt. rests-shown h _ s (all k d lt))

pub rest-all : (ls : List LinkModel) (h : List EntryModel) (s : Sought) → All (λ l. LinkRests l s) (map (shown h) ls) → All (λ l. LineRests l s) ls
rest-all [] h s all k d lt = absurd (omega (arith, lt))
rest-all (x ∷ ls) h s all zero d lt = shown-rests h x s (all zero (shown h d) (omega arith))
rest-all (x ∷ ls) h s all (suc k) d lt = rest-all ls h s (λ j e l. all (suc j) e (omega (arith, l))) k d (omega (arith, lt))

-- what is kept, where the history grows

module _ (h h' : List EntryModel) (same : (place : ℕ) → place < length h → reply_at h' place ≡ reply_at h place) where
  back-same : (b : Kept) → IsBelow (length h) b → shown_back h' b ≡ shown_back h b
  back-same Welcome p = refl
  back-same (Refusal t told) p = refl
  back-same (Entry t place) p = ap (λ d. To t (Reply (value_of d))) (same place p)

  backs-same : (bs : List Kept) → All (IsBelow (length h)) bs → map (shown_back h') bs ≡ map (shown_back h) bs
  backs-same [] p = refl
  backs-same (b ∷ bs) p = λ i. back-same b (p 0 b (omega arith)) i ∷ backs-same bs (λ k d lt. p (suc k) d (omega (arith, lt))) i

  pub line-same : (l : LinkModel) → KeepsBelow (length h) l → shown h' l ≡ shown h l
  line-same l p = ap (λ bs. record { node = l.node; is_open = l.is_open; requests = l.requests; backs = bs; asking = l.asking }) (backs-same l.backs p)

  pub lines-same : (ls : List LinkModel) → All (KeepsBelow (length h)) ls → map (shown h') ls ≡ map (shown h) ls
  lines-same [] p = refl
  lines-same (l ∷ ls) p = λ i. line-same l (p 0 l (omega arith)) i ∷ lines-same ls (λ k d lt. p (suc k) d (omega (arith, lt))) i

-- an answer is kept, where the link is open
pub keeps-shown : (h : List EntryModel) (l : LinkModel) (b : Kept) → shown h (keeps l b) ≡ replied (shown h l) (shown_back h b)
keeps-shown h l b = go l.is_open
  where
    go : (o : Bool) → shown h (keeps (record l { is_open = o }) b) ≡ replied (shown h (record l { is_open = o })) (shown_back h b)
    go true = ap (λ bs. record { node = l.node; is_open = true; requests = l.requests; backs = bs; asking = l.asking }) (map_push (shown_back h) l.backs b)
    go false = refl

-- the lines of a list, one of which is written

pub line-at : (n : ℕ) (ls : List LinkModel) (at : ℕ) (l : LinkModel) → All (KeepsBelow n) ls → slice_get ls at ≡ Some l → KeepsBelow n l
line-at n ls at l all e = subst (KeepsBelow n) (get_or_from_slice_get ls at l l e) (all at l (slice_get_within ls at l e))

pub rest-below : (n : ℕ) (b : Kept) (bs rest : List Kept) → bs ≡ b ∷ rest → All (IsBelow n) bs → All (IsBelow n) rest
rest-below n b bs rest e all k d lt =
    let more : All (IsBelow n) (b ∷ rest) = subst (All (IsBelow n)) e all in more (suc k) d (omega (arith, lt))

pub first-below : (n : ℕ) (b : Kept) (bs rest : List Kept) → bs ≡ b ∷ rest → All (IsBelow n) bs → IsBelow n b
first-below n b bs rest e all = let more : All (IsBelow n) (b ∷ rest) = subst (All (IsBelow n)) e all in more 0 b (omega arith)

pub keeps-below : (n : ℕ) (l : LinkModel) (b : Kept) → KeepsBelow n l → IsBelow n b → KeepsBelow n (keeps l b)
keeps-below n l b all p = go l.is_open
  where
    go : (o : Bool) → KeepsBelow n (keeps (record l { is_open = o }) b)
    go true = All-push (IsBelow n) l.backs b all p
    go false = all

back-longer : (n m : ℕ) → ((count : ℕ) → count < n → count < m) → (b : Kept) → IsBelow n b → IsBelow m b
back-longer n m more Welcome p = tt
back-longer n m more (Refusal t told) p = tt
back-longer n m more (Entry t place) p = more place p

pub line-longer : (n m : ℕ) → ((count : ℕ) → count < n → count < m) → (l : LinkModel) → KeepsBelow n l → KeepsBelow m l
line-longer n m more l all k d lt = back-longer n m more _ (all k d lt)

pub lines-longer : (n m : ℕ) → ((count : ℕ) → count < n → count < m) → (ls : List LinkModel) → All (KeepsBelow n) ls → All (KeepsBelow m) ls
lines-longer n m more ls all k d lt = line-longer n m more (slice_index_or ls k d) (all k d lt)

-- a link takes a request, and keeps a reply

pub head-of : {X : Type 0} (xs : List X) (x : X) → Some x ≡ slice_get xs 0 → (rest : List X) × (xs ≡ x ∷ rest)
head-of [] x e = absurd (cc)
head-of (y ∷ ys) x e = let same : y ≡ x = cc in (ys, ap (λ z. z ∷ ys) same)

pub tails : {X : Type 0} (xs rest more : List X) (x y : X) → xs ≡ x ∷ rest → xs ≡ y ∷ more → xs ≡ x ∷ more
tails xs rest more x y e f = cc

pub some-request : (xs ys rest : List LinkRequest) (x : LinkRequest) → ys ≡ xs → xs ≡ x ∷ rest → ys ≢ []
some-request xs ys rest x e f g = let none : xs ≡ [] = sym e ∙ g in cc

pub taken-first : (xs ys more rest : List LinkRequest) (x y : LinkRequest) → ys ≡ xs → ys ≡ x ∷ more → xs ≡ y ∷ rest → x ≡ y
taken-first xs ys more rest x y e f g = let same : x ∷ more ≡ y ∷ rest = sym f ∙ e ∙ g in cc

module _ (l l1 l2 l3 : LinkModel) (flag : Bool) (b : Kept) (e1 : l1 ≡ record l { room = l1.room }) (e2 : l2 ≡ record l1 { requests = l2.requests; asking = flag }) (e3 : l3 ≡ keeps l2 b) where
  pub done-shown : (h : List EntryModel) → shown h l3 ≡ replied (record (shown h l) { requests = l2.requests; asking = flag }) (shown_back h b)
  done-shown h =
      let two : shown h l2 ≡ record (shown h l) { requests = l2.requests; asking = flag } =
      ap (shown h) e2 ∙ ap (λ (x : LinkModel). record (shown h x) { requests = l2.requests; asking = flag }) e1 in
      ap (shown h) e3 ∙ keeps-shown h l2 b ∙ ap (λ (x : Link). replied x (shown_back h b)) two

  pub done-below : (n : ℕ) → KeepsBelow n l → IsBelow n b → KeepsBelow n l3
  done-below n all p =
      let same : l2.backs ≡ l.backs = ap (λ (x : LinkModel). x.backs) e2 ∙ ap (λ (x : LinkModel). x.backs) e1 in
      subst (KeepsBelow n) (sym e3) (keeps-below n l2 b (subst (All (IsBelow n)) (sym same) all) p)
