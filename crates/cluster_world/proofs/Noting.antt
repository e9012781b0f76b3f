-- What the commands of a run were told is noted, one after another.
use Rattle.std.proofs.Common.{◌≡◌, ◌<◌, ◌≤◌, ◌+◌, ℕ, Bool, true, false, List, [], ◌∷◌, length, All, refl, sym, ap, ◌∙◌, subst, arith}
use Rattle.std.proofs.lemmas.List.{length_push}
use Rattle.key_split.specs.PartModel.{PartModel}
use Rattle.key_split.specs.declared.travel.Ticket.{Ticket}
use Rattle.key_split.specs.declared.travel.Told.{Told}
use Rattle.node_model.specs.History.{EntryModel}
use Rattle.world_laws.specs.State.{Link, replied}
use Rattle.world_laws.specs.declared.state.LinkReply.TheVariants.{To}
use Rattle.cluster_world.specs.Kept.{LinkModel, shown, shown_back, keeps, reply_at, KeepsBelow, Notes, NotesAll, Served, all_noted, served_in, told_all}
use Rattle.cluster_world.specs.declared.link.Kept.{Kept}
use Rattle.cluster_world.proofs.Shown.{keeps-below, keeps-shown, line-longer, line-same}

-- from what was there, through what is noted now, to what all leave
pub record Onward (h0 : List EntryModel) (l0 : LinkModel) (all : List Served) (moment : ℕ) (h : List EntryModel) (l : LinkModel) (rest : List Served) : Type 0 where
  pub history : all_noted h moment rest ≡ all_noted h0 moment all
  pub shows : told_all (shown h l) rest ≡ told_all (shown h0 l0) all
  pub below : KeepsBelow (length h) l
  pub longer : (count : ℕ) → count < length h0 → count < length h
  pub same : (place : ℕ) → place < length h0 → reply_at h place ≡ reply_at h0 place

pub onward-start : (h : List EntryModel) (l : LinkModel) (all : List Served) (moment : ℕ) → KeepsBelow (length h) l → Onward h l all moment h l all
onward-start h l all moment below = record { history = refl; shows = refl; below = below; longer = λ count lt. lt; same = λ place lt. refl }

pub onward-end : (h0 h : List EntryModel) (l0 l : LinkModel) (all rest : List Served) (moment : ℕ) → rest ≡ [] → Onward h0 l0 all moment h l rest → NotesAll h0 l0 all moment h l
onward-end h0 h l0 l all rest moment none o = record {
  history = sym (ap (all_noted h moment) none) ∙ o.history;
  shows = sym (ap (told_all (shown h l)) none) ∙ o.shows;
  below = o.below;
  longer = o.longer;
  same = o.same;
}

pub onward-next : (h0 h h' : List EntryModel) (l0 l l' : LinkModel) (all rest more : List Served) (moment : ℕ) (ticket : Ticket) (part : PartModel) (told : Told) (kept : Kept)
    → rest ≡ record { ticket = ticket; part = part; told = told } ∷ more → Notes h ticket part moment told h' kept → l' ≡ keeps l kept
    → Onward h0 l0 all moment h l rest → Onward h0 l0 all moment h' l' more
onward-next h0 h h' l0 l l' all rest more moment ticket part told kept first notes is o = record {
  history = ap (λ x. all_noted x moment more) notes.history ∙ sym (ap (all_noted h moment) first) ∙ o.history;
  shows = ap (λ (x : Link). told_all x more) one ∙ sym (ap (told_all (shown h l)) first) ∙ o.shows;
  below = subst (KeepsBelow (length h')) (sym is) (keeps-below (length h') l kept (line-longer (length h) (length h') notes.longer l o.below) notes.below);
  longer = λ count lt. notes.longer count (o.longer count lt);
  same = λ place lt. notes.same place (o.longer place lt) ∙ o.same place lt;
}
  where
    one : shown h' l' ≡ replied (shown h l) (To ticket told)
    one = ap (shown h') is ∙ keeps-shown h' l kept ∙ (λ i. replied (line-same h h' notes.same l o.below i) (notes.shows i))

-- none are left

pub no-part : (ts : List Ticket) (ps : List PartModel) (ds : List Told) → length ps ≡ 0 → served_in ts ps ds ≡ []
no-part [] ps ds none = refl
no-part (t ∷ ts) [] ds none = refl
no-part (t ∷ ts) (p ∷ ps) ds none = absurd (omega (arith, none))

pub no-told : (ts : List Ticket) (ps : List PartModel) (ds : List Told) → length ds ≡ 0 → served_in ts ps ds ≡ []
no-told [] ps ds none = refl
no-told (t ∷ ts) [] ds none = refl
no-told (t ∷ ts) (p ∷ ps) [] none = refl
no-told (t ∷ ts) (p ∷ ps) (d ∷ ds) none = absurd (omega (arith, none))

-- there is room for as many

pub keeps-room : (l : LinkModel) (kept : Kept) → (length (keeps l kept).backs ≤ length l.backs + 1) × ((keeps l kept).room ≡ l.room)
keeps-room l kept = go l.is_open
  where
    go : (o : Bool) → (length (keeps (record l { is_open = o }) kept).backs ≤ length l.backs + 1) × ((keeps (record l { is_open = o }) kept).room ≡ l.room)
    go true = (omega (arith, length_push l.backs kept), refl)
    go false = (omega arith, refl)
