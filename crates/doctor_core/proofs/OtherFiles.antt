-- The names of a folder's files that aren't read.
use Rattle.std.proofs.Common.{◌≡◌, true, false, ℕ, List, filter, sym, subst}
use Rattle.std.specs.Prelude.{Option, Some, None, IfSome, Result, Ok, Err, IfOk, IsTrue}
use Rattle.net_types.proofs.Ordered.{in_order_sorted}
use Rattle.net_types.specs.declared.text.Text.{Text}
use Rattle.net_io.specs.Files.{Told, has_folder, IsListing, IsAbsentUnless}
use Rattle.topo_links.specs.Names.{name_cmp, sorted_names}
use Rattle.topo_links.proofs.NameOrder.{name_total, name_exact, members_sorted, members_filter}
use Rattle.doctor_core.specs.Folders.{is_other, AreOthers}

others_listed : (t : Told) (folder : List ℕ) (listing : List (List ℕ)) → IsListing t folder listing → AreOthers t folder (sorted_names (filter is_other listing))
others_listed t folder listing h = record {
  order = in_order_sorted name_cmp name_total name_exact (filter is_other listing);
  all = λ q. (
    λ c. (let m = (members_filter is_other listing q).0 ((members_sorted (filter is_other listing) q).0 c) in ((h.all q).0 m.0, m.1)),
    λ c. (members_sorted (filter is_other listing) q).1 ((members_filter is_other listing q).1 ((h.all q).1 c.0, c.1)),
  );
}

pub listed : (o : Option Told) (folder : List ℕ) (listing found : List (List ℕ)) → IfSome o (λ t. IsListing t folder listing)
    → found ≡ sorted_names (filter is_other listing) → IfSome o (λ t. AreOthers t folder found)
listed None folder listing found names e = tt
listed (Some t) folder listing found names e = subst (λ (ns : List (List ℕ)). AreOthers t folder ns) (sym e) (others_listed t folder listing names)
