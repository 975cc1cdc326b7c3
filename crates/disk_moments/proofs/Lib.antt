mod Pasts
