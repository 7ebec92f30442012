-- Parts that were appended one after another.
use Rattle.std.proofs.Common.{◌≡◌, ℕ, List, ◌++◌, append_assoc}

module _ (out x y z : List ℕ) where
  pub three_appended : (a b c : List ℕ) → a ≡ out ++ x → b ≡ a ++ y → c ≡ b ++ z → c ≡ out ++ (x ++ y ++ z)
  three_appended a b c p q r = rw (r, q, p) (simp append_assoc)

  pub four_appended : (u a b c d : List ℕ) → a ≡ out ++ x → b ≡ a ++ y → c ≡ b ++ z → d ≡ c ++ u → d ≡ out ++ (x ++ y ++ z ++ u)
  four_appended u a b c d p q r s = rw (s, r, q, p) (simp append_assoc)

  pub nine_appended : (l m n o u v a b c d e f g h i : List ℕ) → a ≡ out ++ x → b ≡ a ++ y → c ≡ b ++ z → d ≡ c ++ l → e ≡ d ++ m → f ≡ e ++ n → g ≡ f ++ o → h ≡ g ++ u → i ≡ h ++ v
      → i ≡ out ++ (x ++ y ++ z ++ l ++ m ++ n ++ o ++ u ++ v)
  nine_appended l m n o u v a b c d e f g h i p1 p2 p3 p4 p5 p6 p7 p8 p9 = rw (p9, p8, p7, p6, p5, p4, p3, p2, p1) (simp append_assoc)
