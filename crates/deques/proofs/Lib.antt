mod Balanced
