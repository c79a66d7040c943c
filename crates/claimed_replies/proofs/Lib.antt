mod ClaimLemmas
